-- A terminal is silent in the superframes whose reference burst it did not take.
use Rattle.std.proofs.Common.{◌≡◌, ◌==◌, Bool, true, false, List, [], ◌∷◌, Option, Some, None, All, refl, sym, ◌∙◌, arith}
use Rattle.std.proofs.lemmas.Bool.Decides.{nat_tests}
use Rattle.std.proofs.lemmas.List.Elements.{recursion_from_All}
use Rattle.std.specs.List.{AllByRecursion}
use Rattle.bt_frame.specs.declared.numbers.EditionNo.{EditionNo}
use Rattle.bt_frame.specs.declared.numbers.Mark.{Mark}
use Rattle.bt_frame.specs.declared.numbers.TermNo.{TermNo}
use Rattle.bt_air.specs.declared.message.Message.TheVariants as message
use Rattle.bt_air.specs.declared.order.Armed.{Armed}
use Rattle.bt_machines.specs.Banks.{hold, have_room, are_used, next_bank}
use Rattle.bt_machines.specs.Terminal.{State, new_of, in_force, is_for_another, is_before, is_wrong, raising, storing, step_of, transmitted}
use Rattle.bt_machines.specs.TerminalRun.{TerminalEvent, Hears, Restarts, after_event, state_after, TakesReference}
use Rattle.bt_machines.specs.declared.burst_bank.Holding.{Holding}
use Rattle.bt_machines.proofs.TerminalRows.{plan_rows}

-- no row of bursts that come takes a reference burst
pub plan_keeps : (s higher after : State) (another held room used older : Bool) → higher.heard ≡ s.heard → after.heard ≡ s.heard
    → (plan_rows s higher after another held room used older).1.heard ≡ s.heard
plan_keeps s higher after true held room used older d e = refl
plan_keeps s higher after false true room used older d e = d
plan_keeps s higher after false false true used older d e = e
plan_keeps s higher after false false false true older d e = refl
plan_keeps s higher after false false false false true d e = refl
plan_keeps s higher after false false false false false d e = e

-- the same number is the same superframe
same_mark : (a b : Mark) → a.0 ≡ b.0 → a ≡ b
same_mark a b e = rw e refl

-- nothing is named by a reference burst of another superframe
other_frame : (superframe mark : Mark) (named : Option EditionNo) (next : Option Armed) (same : Bool) → superframe.0 == mark.0 ≡ same → ¬ (superframe ≡ mark)
    → in_force (Some (record { superframe = superframe; in_force = named; next = next })) mark ≡ None
other_frame superframe mark named next true e other = absurd (other (same_mark superframe mark (grind (arith, nat_tests))))
other_frame superframe mark named next false e other = rw e refl

-- a reference burst that is heard, of another superframe than this
reference_keeps : (s : State) (at superframe mark : Mark) (named : Option EditionNo) (next : Option Armed) (wrong : Bool) → is_wrong superframe at ≡ wrong
    → ¬ ((at ≡ mark) × (superframe ≡ mark)) → in_force s.heard mark ≡ None
    → in_force (step_of s at (message.Reference superframe named next)).1.heard mark ≡ None
reference_keeps s at superframe mark named next true e other none = rw e none
reference_keeps s at superframe mark named next false e other none =
    let same : superframe ≡ at = same_mark superframe at (grind (arith, nat_tests)) in
    rw e (other_frame superframe mark named next _ refl (λ (is : superframe ≡ mark). other (sym same ∙ is, is)))

-- an event in which the reference burst of the superframe is not taken
event_keeps : (s : State) (event : TerminalEvent) (mark : Mark) → ¬ (TakesReference mark event) → in_force s.heard mark ≡ None → in_force (after_event s event).heard mark ≡ None
event_keeps s (Hears at (message.Reference superframe named next)) mark other none = reference_keeps s at superframe mark named next _ refl other none
event_keeps s (Hears at (message.PlanFor to load edition bursts)) mark other none =
    let new : Holding = record { load = load; edition = edition } in
    rw (plan_keeps s (raising s edition load) (storing s at.0 new bursts) (is_for_another s to) (hold s.banks edition) (have_room s.banks)
    (are_used s.heard at.0 s.banks) (is_before new (next_bank s.heard at.0 s.banks)) refl refl) none
event_keeps s (Hears at (message.Load command edition modes)) mark other none = none
event_keeps s (Hears at (message.Arm command edition due)) mark other none = none
event_keeps s (Hears at (message.Status status)) mark other none = none
event_keeps s (Hears at (message.Confirm from load edition)) mark other none = none
event_keeps s (Hears at (message.Lost from)) mark other none = none
event_keeps s Restarts mark other none = refl

-- a run without it
run_keeps : (s : State) (events : List TerminalEvent) (mark : Mark) → AllByRecursion (λ event. ¬ (TakesReference mark event)) events → in_force s.heard mark ≡ None
    → in_force (state_after s events).heard mark ≡ None
run_keeps s [] mark others none = none
run_keeps s (event ∷ events) mark others none = run_keeps (after_event s event) events mark others.1 (event_keeps s event mark others.0 none)

-- a terminal is silent where it did not take the reference burst
pub is_silent : (number : TermNo) (events : List TerminalEvent) (mark : Mark) → All (λ event. ¬ (TakesReference mark event)) events → transmitted (state_after (new_of number) events) mark ≡ []
is_silent number events mark others = rw (run_keeps (new_of number) events mark (recursion_from_All (λ event. ¬ (TakesReference mark event)) events others) refl) refl
