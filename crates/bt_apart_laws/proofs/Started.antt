-- The example meets what must hold of processes.
use Rattle.std.proofs.Common.{◌≡◌, inl, inr, ◌==◌, ◌||◌, Bool, true, false, [], ◌++◌, All, Option, Some, refl, sym, ap, subst, arith}
use Rattle.std.specs.Prelude.{codes}
use Rattle.std.proofs.lemmas.List.Elements.{All-nil}
use Rattle.bt_frame.specs.declared.numbers.TermNo.{TermNo}
use Rattle.bt_net.specs.Network.{Net}
use Rattle.bt_net.specs.Terminals.{IsTerminal}
use Rattle.bt_text.specs.Text.{spaced}
use Rattle.bt_demand.specs.Flyable.{IsFlyable}
use Rattle.bt_history.specs.Changes.{plans}
use Rattle.bt_site.specs.Fits.{HasPlan, IsInTime}
use Rattle.bt_sites.specs.Stamps.{Begun, HasLine, Line}
use Rattle.bt_sites.specs.Step as site
use Rattle.bt_station.specs.declared.asked.Asked.{Asked}
use Rattle.bt_station.specs.declared.asked.Asked.TheVariants as asked
use Rattle.bt_station.specs.Acts.{IsHeardAs, IsSayable, words_of}
use Rattle.bt_station.specs.Asked.{asked_of}
use Rattle.bt_station.proofs.Acts.{is-itself}
use Rattle.bt_apart_laws.specs.Example.{empty_start, first_superframe}
use Rattle.bt_apart_laws.specs.Premises.{AreProcesses, IsStart, MayAsk}
use Rattle.bt_apart_laws.specs.Processes.{asked_lines, opening_over, satellite_by}

tick-asked : (net : Net) → asked_of net (codes "tick") ≡ Some asked.Tick
tick-asked net = refl

or-true : (a b : Bool) → a ≡ true → (a || b) ≡ true
or-true a b is = ap (λ (c : Bool). c || b) is

-- that superframe 1 begins was said
begun-said : (net : Net) (number : TermNo) (one : Option Asked) → one ≡ Some asked.Tick → HasLine (asked_lines (satellite_by (empty_start net) []) one ++ []) (Begun 1)
begun-said net number one is = subst (λ (a : Option Asked). HasLine (asked_lines (satellite_by (empty_start net) []) a ++ []) (Begun 1)) (sym is) (inl refl)

pub example-start : (net : Net) → All (IsFlyable net) (plans []) → IsStart (empty_start net)
example-start net flies = record {
  follows = tt;
  opens = record { starts = refl; fit = flies; numbered = tt; planned = All-nil (HasPlan (opening_over net []).plans); in_time = All-nil IsInTime; few = omega arith };
  mark = omega arith;
  range = omega arith;
}

pub example-goes : (heard : (net : Net) (line : Line) → IsSayable line → IsHeardAs net (spaced (words_of line)) line) → (net : Net) (number : TermNo) → All (IsFlyable net) (plans [])
    → IsTerminal net number → AreProcesses (empty_start net) (first_superframe number)
example-goes heard net number flies named =
    let ticks = subst (λ (a : Option Asked). MayAsk (empty_start net) [] site.Satellite a) (sym (tick-asked net)) tt in
    ((heard net (Begun 1) (omega arith, omega arith), inr (begun-said net number (asked_of net (codes "tick")) (tick-asked net)), (or-true (number.0 == number.0) false (is-itself number.0), λ none. omega arith)), (named, (ticks, example-start net flies)))
