-- In a round neither the planner nor the centre's worker asks for an edit.
use Rattle.std.proofs.Common.{◌≡◌, ℕ, false, List, [], ◌∷◌, ◌++◌, All, refl, sym, ap, subst, ◌∙◌}
use Rattle.std.specs.Prelude.{flat_map}
use Rattle.std.proofs.lemmas.List.Elements.{All-append, All-nil, All-cons, All-head, All-tail}
use Rattle.bt_frame.specs.declared.numbers.EditionNo.{EditionNo}
use Rattle.bt_net.specs.Network.{Net}
use Rattle.bt_demand.specs.declared.demand.Link.{Link}
use Rattle.bt_journal.specs.declared.call.Call.{Call}
use Rattle.bt_journal.specs.declared.call.Call.TheVariants as call
use Rattle.bt_journal.specs.declared.entry.Entry.{Entry}
use Rattle.bt_journal.specs.Journal.{asks_edit}
use Rattle.bt_script.specs.declared.script.AirLine.{AirLine}
use Rattle.bt_round.specs.AirLines.{AirState, PlaysAirLines}
use Rattle.bt_round.specs.Planning.{PlansEdition, PlansOnce, PlaysPlans}
use Rattle.bt_run_laws.proofs.Asking.{centre_asks}

-- none of the entries asks for an edit
abbrev pub AskNoEdit : List Entry → Type 0
AskNoEdit entries = All (λ (entry : Entry). asks_edit entry.call ≡ false) entries

-- the planner asks for no edit
alone : (entry : Entry) (asked : Call) → entry.call ≡ asked → asks_edit asked ≡ false → AskNoEdit (entry ∷ [])
alone entry asked is other = All-cons (λ (e : Entry). asks_edit e.call ≡ false) entry [] (ap asks_edit is ∙ other) (All-nil (λ (e : Entry). asks_edit e.call ≡ false))

both : (a b : List Entry) → AskNoEdit a → AskNoEdit b → AskNoEdit (a ++ b)
both a b first second = All-append (λ (e : Entry). asks_edit e.call ≡ false) a b first second

edition_asks : (net : Net) (edition newest : EditionNo) (links : List Link) (entries : List Entry) → PlansEdition net edition newest links entries → AskNoEdit entries
edition_asks net edition newest links [] is = All-nil (λ (e : Entry). asks_edit e.call ≡ false)
edition_asks net edition newest links (entry ∷ []) is = alone entry (call.Install is.1.0) is.1.1 refl
edition_asks net edition newest links (entry ∷ other ∷ more) is = absurd is

plan_asks : (net : Net) (entries : List Entry) → PlansOnce net entries → AskNoEdit entries
plan_asks net entries is =
    subst AskNoEdit (sym is.all) (both (is.seen ∷ []) is.others (alone is.seen call.Snapshot is.call refl) (edition_asks net is.edition is.newest is.links is.others is.planned))

plans_ask : (net : Net) (parts : List (List Entry)) → All (PlansOnce net) parts → AskNoEdit (flat_map (λ (part : List Entry). part) parts)
plans_ask net [] each = All-nil (λ (e : Entry). asks_edit e.call ≡ false)
plans_ask net (part ∷ parts) each =
    both part (flat_map (λ (part : List Entry). part) parts) (plan_asks net part (All-head (PlansOnce net) part parts each)) (plans_ask net parts (All-tail (PlansOnce net) part parts each))

pub planner_asks_none : (net : Net) (count : ℕ) (entries : List Entry) → PlaysPlans net count entries → AskNoEdit entries
planner_asks_none net count entries is = subst AskNoEdit (sym is.whole) (plans_ask net is.parts is.each)

-- nor does the centre's worker
pub centre_asks_none : (net : Net) (air : AirState) (lines : List AirLine) (entries : List Entry) (text : List ℕ) (after : AirState) → PlaysAirLines net air lines entries text after → AskNoEdit entries
centre_asks_none net air lines entries text after = centre_asks (λ (asked : Call). asks_edit asked ≡ false) (λ _. refl) (λ _. refl) net air lines entries text after
