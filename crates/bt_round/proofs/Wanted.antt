-- An order that the centre of a world wants arms for a superframe that can come.
use Rattle.std.proofs.Common.{◌≡◌, ℕ, ◌+◌, ◌≤◌, ◌==◌, ◌&&◌, nat_le, nat_lt, not, Bool, true, false, if◌then◌else◌, List, [], ◌∷◌, Option, Some, None, IfSome, refl, subst, arith}
use Rattle.bt_frame.specs.declared.numbers.EditionNo.{EditionNo}
use Rattle.bt_net.specs.Network.{Net}
use Rattle.bt_air.specs.declared.order.Order.{Order}
use Rattle.bt_air.specs.declared.order.Order.TheVariants.{Load, Arm}
use Rattle.bt_air.specs.declared.order.Status.{Status}
use Rattle.bt_air.specs.declared.sent.Act.{Act}
use Rattle.bt_air.specs.declared.sent.Act.TheVariants.{Quiet, RepeatLoad, RepeatArm, Want}
use Rattle.bt_history.specs.Causes.{CanCome}
use Rattle.bt_history.specs.Machine.{Step}
use Rattle.bt_journal.specs.declared.call.Call.{Call}
use Rattle.bt_journal.specs.declared.call.Call.TheVariants as call
use Rattle.bt_journal.specs.declared.entry.Entry.{Entry}
use Rattle.bt_round.specs.Callers.{Calling, IsAnswered}
use Rattle.bt_round.specs.Worker.{AnswersOrder}
use Rattle.bt_round.proofs.Unplaced.{change-answers}
use Rattle.std.proofs.lemmas.Bool.{leb-true}
use Rattle.bt_frame.specs.declared.numbers.Command.{Command}
use Rattle.bt_machines.specs.declared.turn.Turn.{Turn as Sight}
use Rattle.bt_machines.specs.Last.{last_order}
use Rattle.bt_machines.specs.Turn.{act_of, arm_after, attempt, is_before, is_ready, may_arm, wanted_by}
use Rattle.bt_site.specs.Event.{Opening, Event, Tick, Turn, Second, Ordered, Deliver, Frame, ResetTerminal, RestartCentre, Install}
use Rattle.bt_site.specs.World.{kept, log, orders, sight, wanted}

either : (b : Bool) (x y : Act) → (b ≡ true → IfSome (wanted_by x) CanCome) → (b ≡ false → IfSome (wanted_by y) CanCome) → IfSome (wanted_by (if b then x else y)) CanCome
either true x y first second = first refl
either false x y first second = second refl

attempt-can : (in_force : Option EditionNo) (target : EditionNo) (last : ℕ) → IfSome (wanted_by (attempt in_force target last)) CanCome
attempt-can None target last = tt
attempt-can (Some fore) target last = either (target.0 == fore.0) Quiet (Want (Load (record { 0 = last + 1 }) target)) (λ e. tt) (λ e. tt)

and-last : (a b : Bool) → (a && b) ≡ true → b ≡ true
and-last true b e = e
and-last false b e = cc

load-can : (turn : Sight) (status : Status) (command : Command) (edition : EditionNo) → 1 ≤ turn.lead
    → IfSome (wanted_by (if may_arm turn status command then Want (arm_after turn command edition) else RepeatLoad (not (status.last.0 == command.0)))) CanCome
load-can turn status command edition ahead =
    either (may_arm turn status command) (Want (arm_after turn command edition)) (RepeatLoad (not (status.last.0 == command.0)))
    (λ e.
    let late : nat_le (turn.mark.0 + turn.lead) 4000000000 ≡ true =
    and-last (is_ready turn) (nat_le (turn.mark.0 + turn.lead) 4000000000)
    (and-last (status.last.0 == command.0) (is_ready turn && nat_le (turn.mark.0 + turn.lead) 4000000000) e) in
    let most : turn.mark.0 + turn.lead ≤ 4000000000 = leb-true (turn.mark.0 + turn.lead) 4000000000 late in
    let least : 1 ≤ turn.mark.0 + turn.lead = omega (arith, ahead) in
    (least, most))
    (λ e. tt)

arm-can : (turn : Sight) (status : Status) (command : Command) (due : ℕ)
    → IfSome (wanted_by (if is_before status due && nat_lt turn.mark.0 due then RepeatArm else (if is_before status due then Quiet else attempt turn.in_force turn.target command.0))) CanCome
arm-can turn status command due =
    either (is_before status due && nat_lt turn.mark.0 due) RepeatArm (if is_before status due then Quiet else attempt turn.in_force turn.target command.0) (λ e. tt)
    (λ e. either (is_before status due) Quiet (attempt turn.in_force turn.target command.0) (λ f. tt) (λ f. attempt-can turn.in_force turn.target command.0))

act-can : (turn : Sight) (before : Option Order) (status : Option Status) (last : Option Order) → 1 ≤ turn.lead → IfSome before CanCome → IfSome (wanted_by (act_of turn before status last)) CanCome
act-can turn (Some order) status last ahead can = can
act-can turn None None last ahead can = tt
act-can turn None (Some status) None ahead can = attempt-can turn.in_force turn.target 0
act-can turn None (Some status) (Some (Load command edition)) ahead can = load-can turn status command edition ahead
act-can turn None (Some status) (Some (Arm command edition due)) ahead can = arm-can turn status command due.0

-- an order that the centre wants can be asked to be placed
pub wanted-can : (o : Opening) (events : List Event) → 1 ≤ o.net.lead → IfSome (wanted (log o events)) CanCome
wanted-can o [] ahead = tt
wanted-can o (Tick ∷ earlier) ahead = wanted-can o earlier ahead
wanted-can o (Turn target ∷ earlier) ahead =
    act-can (sight o (log o earlier) target) (wanted (log o earlier)) (kept (log o earlier)) (last_order (orders o (log o earlier))) ahead (wanted-can o earlier ahead)
wanted-can o (Second in_force ∷ earlier) ahead = wanted-can o earlier ahead
wanted-can o (Ordered ∷ earlier) ahead = tt
wanted-can o (Deliver number place ∷ earlier) ahead = wanted-can o earlier ahead
wanted-can o (Frame ∷ earlier) ahead = wanted-can o earlier ahead
wanted-can o (ResetTerminal terminal ∷ earlier) ahead = wanted-can o earlier ahead
wanted-can o (RestartCentre kept ∷ earlier) ahead = tt
wanted-can o (Install plan ∷ earlier) ahead = wanted-can o earlier ahead

-- a reply to an order says that it is placed, or what keeps it from that
pub order-answers : {caller : Calling} (net : Net) (entry : Entry) (order : Order) (so : IsAnswered net caller entry) → entry.call ≡ call.Place order → AnswersOrder entry.reply
order-answers net entry order so asked =
    let step : Step net so.old (call.Place order) entry.reply so.new = subst (λ (c : Call). Step net so.old c entry.reply so.new) asked so.step in
    change-answers net so.old so.new order entry.reply step.answered
