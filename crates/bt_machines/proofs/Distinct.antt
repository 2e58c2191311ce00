-- The two banks of a terminal never hold one edition.
use Rattle.std.proofs.Common.{◌≡◌, ◌≢◌, ℕ, if◌then◌else◌, Bool, true, false, List, [], ◌∷◌, Option, Some, None, refl, sym, ap, ◌∙◌, arith}
use Rattle.std.proofs.lemmas.Bool.{or_parts}
use Rattle.std.proofs.lemmas.Bool.Decides.{nat_tests}
use Rattle.bt_frame.specs.declared.numbers.EditionNo.{EditionNo}
use Rattle.bt_frame.specs.declared.numbers.Mark.{Mark}
use Rattle.bt_frame.specs.declared.numbers.TermNo.{TermNo}
use Rattle.bt_demand.specs.declared.burst.Burst.{Burst}
use Rattle.bt_air.specs.declared.message.Message.TheVariants as message
use Rattle.bt_air.specs.declared.sent.Heard.{Heard}
use Rattle.bt_air.specs.declared.sent.Heard.TheVariants.{Took, WrongMark}
use Rattle.bt_air.specs.declared.order.Armed.{Armed}
use Rattle.bt_frame.specs.declared.numbers.Command.{Command}
use Rattle.bt_machines.specs.declared.burst_bank.Bank.{Bank}
use Rattle.bt_machines.specs.declared.burst_bank.Holding.{Holding}
use Rattle.bt_machines.specs.declared.reference.Reference.{Reference}
use Rattle.bt_machines.specs.Banks.{is_of, second_gives, hold, have_room, are_used, next_bank, raised, with_raised, with_stored}
use Rattle.bt_machines.specs.Terminal.{State, new_of, is_for_another, is_before, is_wrong, having_heard, raising, storing}
use Rattle.bt_machines.specs.TerminalRun.{TerminalEvent, Hears, Restarts, after_event, state_after, AreDistinct}
use Rattle.bt_machines.proofs.TerminalRows.{plan_rows}
use Rattle.bt_machines.proofs.Stay.{raised-edition}

-- no two banks of the terminal hold one edition
abbrev HasDistinct : State → Type 0
HasDistinct s = AreDistinct s.banks.first s.banks.second

-- a bank that is not of an edition has another
others : (a b : Bank) → is_of (Some a) b.holding.edition ≡ false → a.holding.edition ≢ b.holding.edition
others a b e same = let n = ap (λ (edition : EditionNo). edition.0) same in grind (arith, nat_tests)

-- the two banks, whichever gives way
either_distinct : (heard : Option Reference) (now : ℕ) (first second bank : Bank) (gives : Bool) → second_gives heard now first.holding second.holding ≡ gives
    → is_of (Some first) bank.holding.edition ≡ false → is_of (Some second) bank.holding.edition ≡ false
    → (let banks = with_stored heard now (record { first = Some first; second = Some second }) bank in AreDistinct banks.first banks.second)
either_distinct heard now first second bank true e p q = rw e (others first bank p)
either_distinct heard now first second bank false e p q = rw e (λ (same : bank.holding.edition ≡ second.holding.edition). others second bank q (sym same))

-- an edition that is held by neither bank, once it is stored
stored_distinct : (heard : Option Reference) (now : ℕ) (first second : Option Bank) (bank : Bank) → is_of first bank.holding.edition ≡ false → is_of second bank.holding.edition ≡ false
    → (let banks = with_stored heard now (record { first = first; second = second }) bank in AreDistinct banks.first banks.second)
stored_distinct heard now None None bank p q = tt
stored_distinct heard now None (Some second) bank p q = λ (same : bank.holding.edition ≡ second.holding.edition). others second bank q (sym same)
stored_distinct heard now (Some first) None bank p q = others first bank p
stored_distinct heard now (Some first) (Some second) bank p q = either_distinct heard now first second bank _ refl p q

-- a bank that is raised
raised_distinct : (first second : Option Bank) (edition : EditionNo) (load : Command) (of : Bool) → is_of first edition ≡ of → AreDistinct first second
    → (let banks = with_raised (record { first = first; second = second }) edition load in AreDistinct banks.first banks.second)
raised_distinct None None edition load of e distinct = tt
raised_distinct None (Some b) edition load of e distinct = tt
raised_distinct (Some a) None edition load true e distinct = rw e tt
raised_distinct (Some a) None edition load false e distinct = rw e tt
raised_distinct (Some a) (Some b) edition load true e distinct = rw e (λ same. distinct (sym (raised-edition a.holding load _) ∙ same))
raised_distinct (Some a) (Some b) edition load false e distinct = rw e (λ same. distinct (same ∙ raised-edition b.holding load _))

-- bursts of an edition that the terminal does not hold, once they are stored
storing_distinct : (s : State) (now : ℕ) (new : Holding) (bursts : List Burst) → hold s.banks new.edition ≡ false → HasDistinct (storing s now new bursts)
storing_distinct s now new bursts e =
    let parts = or_parts (is_of s.banks.first new.edition) (is_of s.banks.second new.edition) e in
    stored_distinct s.heard now s.banks.first s.banks.second (record { holding = new; bursts = bursts }) parts.0 parts.1

-- the rows of bursts that come
plan_distinct : (s : State) (now : ℕ) (new : Holding) (bursts : List Burst) (another held room used older : Bool) → hold s.banks new.edition ≡ held → HasDistinct s
    → HasDistinct (plan_rows s (raising s new.edition new.load) (storing s now new bursts) another held room used older).1
plan_distinct s now new bursts true held room used older e distinct = distinct
plan_distinct s now new bursts false true room used older e distinct = raised_distinct s.banks.first s.banks.second new.edition new.load _ refl distinct
plan_distinct s now new bursts false false true used older e distinct = storing_distinct s now new bursts e
plan_distinct s now new bursts false false false true older e distinct = distinct
plan_distinct s now new bursts false false false false true e distinct = distinct
plan_distinct s now new bursts false false false false false e distinct = storing_distinct s now new bursts e

-- the rows of a reference burst
row_distinct : (s : State) (superframe : Mark) (named : Option EditionNo) (next : Option Armed) (wrong : Bool) → HasDistinct s
    → (let row : Heard × State = if wrong then (WrongMark, s) else (Took, having_heard s superframe named next) in HasDistinct row.1)
row_distinct s superframe named next true distinct = distinct
row_distinct s superframe named next false distinct = distinct

-- an event
event_distinct : (s : State) (event : TerminalEvent) → HasDistinct s → HasDistinct (after_event s event)
event_distinct s (Hears mark (message.Reference superframe named next)) distinct = row_distinct s superframe named next (is_wrong superframe mark) distinct
event_distinct s (Hears mark (message.PlanFor to load edition bursts)) distinct =
    let new : Holding = record { load = load; edition = edition } in
    plan_distinct s mark.0 new bursts (is_for_another s to) (hold s.banks edition) (have_room s.banks)
    (are_used s.heard mark.0 s.banks) (is_before new (next_bank s.heard mark.0 s.banks)) refl distinct
event_distinct s (Hears mark (message.Load command edition modes)) distinct = distinct
event_distinct s (Hears mark (message.Arm command edition due)) distinct = distinct
event_distinct s (Hears mark (message.Status status)) distinct = distinct
event_distinct s (Hears mark (message.Confirm from load edition)) distinct = distinct
event_distinct s (Hears mark (message.Lost from)) distinct = distinct
event_distinct s Restarts distinct = tt

-- a run
run_distinct : (s : State) (events : List TerminalEvent) → HasDistinct s → HasDistinct (state_after s events)
run_distinct s [] distinct = distinct
run_distinct s (event ∷ events) distinct = run_distinct (after_event s event) events (event_distinct s event distinct)

-- no run of a terminal brings one edition into both banks
pub are_distinct : (number : TermNo) (events : List TerminalEvent) → AreDistinct (state_after (new_of number) events).banks.first (state_after (new_of number) events).banks.second
are_distinct number events = run_distinct (new_of number) events tt
