-- The state after a step is the one in which its answer is carried out.
use Rattle.std.proofs.Common.{◌≡◌, ◌≢◌, if◌then◌else◌, Bool, true, false, Option, refl, ◌∙◌}
use Rattle.bt_frame.specs.declared.numbers.EditionNo.{EditionNo}
use Rattle.bt_frame.specs.declared.numbers.Mark.{Mark}
use Rattle.bt_frame.specs.declared.numbers.TermNo.{TermNo}
use Rattle.bt_demand.specs.declared.burst.Burst.{Burst}
use Rattle.std.proofs.Common.{List}
use Rattle.bt_air.specs.declared.message.Message.{Message}
use Rattle.bt_air.specs.declared.message.Message.TheVariants as message
use Rattle.bt_air.specs.declared.order.Armed.{Armed}
use Rattle.bt_air.specs.declared.sent.Heard.{Heard}
use Rattle.bt_air.specs.declared.sent.Heard.TheVariants.{Took, WrongMark, Stored, Held, Older, InUse, NotForMe}
use Rattle.bt_machines.specs.declared.burst_bank.Holding.{Holding}
use Rattle.bt_machines.specs.Banks.{hold, have_room, are_used, next_bank}
use Rattle.bt_machines.specs.Terminal.{State, carried_out, is_for_another, is_before, is_wrong, having_heard, raising, storing, step_of}
use Rattle.bt_machines.proofs.TerminalRows.{plan_rows}

rows-carried : (s : State) (mark : Mark) (to : TermNo) (new : Holding) (bursts : List Burst) (another held room used older : Bool)
    → (plan_rows s (raising s new.edition new.load) (storing s mark.0 new bursts) another held room used older).1
    ≡ carried_out s mark (plan_rows s (raising s new.edition new.load) (storing s mark.0 new bursts) another held room used older).0 (message.PlanFor to new.load new.edition bursts)
rows-carried s mark to new bursts true held room used older = refl
rows-carried s mark to new bursts false true room used older = refl
rows-carried s mark to new bursts false false true used older = refl
rows-carried s mark to new bursts false false false true older = refl
rows-carried s mark to new bursts false false false false true = refl
rows-carried s mark to new bursts false false false false false = refl

reference-carried : (s : State) (mark superframe : Mark) (named : Option EditionNo) (next : Option Armed) (wrong : Bool)
    → (let row : Heard × State = if wrong then (WrongMark, s) else (Took, having_heard s superframe named next) in row.1 ≡ carried_out s mark row.0 (message.Reference superframe named next))
reference-carried s mark superframe named next true = refl
reference-carried s mark superframe named next false = refl

pub step-carried : (s : State) (mark : Mark) (one : Message) → (step_of s mark one).1 ≡ carried_out s mark (step_of s mark one).0 one
step-carried s mark (message.Reference superframe named next) = reference-carried s mark superframe named next (is_wrong superframe mark)
step-carried s mark (message.PlanFor to load edition bursts) =
    let new : Holding = record { load = load; edition = edition } in
    rows-carried s mark to new bursts (is_for_another s to) (hold s.banks edition) (have_room s.banks)
    (are_used s.heard mark.0 s.banks) (is_before new (next_bank s.heard mark.0 s.banks))
step-carried s mark (message.Load command edition modes) = refl
step-carried s mark (message.Arm command edition due) = refl
step-carried s mark (message.Status status) = refl
step-carried s mark (message.Confirm from load edition) = refl
step-carried s mark (message.Lost from) = refl

-- another answer changes nothing
others-carried : (s : State) (mark : Mark) (answer : Heard) (one : Message) → answer ≢ Took → answer ≢ Stored → answer ≢ Held → carried_out s mark answer one ≡ s
others-carried s mark Took one took stored held = absurd (took refl)
others-carried s mark Stored one took stored held = absurd (stored refl)
others-carried s mark Held one took stored held = absurd (held refl)
others-carried s mark WrongMark one took stored held = refl
others-carried s mark Older one took stored held = refl
others-carried s mark InUse one took stored held = refl
others-carried s mark NotForMe one took stored held = refl

pub refused : (s : State) (mark : Mark) (one : Message) → (step_of s mark one).0 ≢ Took → (step_of s mark one).0 ≢ Stored → (step_of s mark one).0 ≢ Held → (step_of s mark one).1 ≡ s
refused s mark one took stored held = step-carried s mark one ∙ others-carried s mark (step_of s mark one).0 one took stored held
