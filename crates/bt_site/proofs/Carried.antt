-- What a message carries of a plan that can be flown is in its range: the modes, and the bursts of each terminal.
use Rattle.std.proofs.Common.{◌≡◌, ℕ, ◌≤◌, ◌==◌, Bool, true, false, List, [], ◌∷◌, length, All, AllPairs, Option, Some, None, IfSome, refl, sym, ◌∙◌, arith}
use Rattle.std.specs.Prelude.{IsSome}
use Rattle.std.proofs.lemmas.Bool.Decides.{nat_tests}
use Rattle.std.proofs.lemmas.List.Elements.{All-head, All-tail}
use Rattle.bt_frame.specs.declared.mode.Mode.{Mode}
use Rattle.bt_frame.specs.declared.numbers.EditionNo.{EditionNo}
use Rattle.bt_frame.specs.declared.numbers.TermNo.{TermNo}
use Rattle.bt_frame.specs.Range.{IsWithin}
use Rattle.bt_net.specs.Network.{Net, IsSound}
use Rattle.bt_matrix.specs.Good.{IsPermutation}
use Rattle.bt_demand.specs.declared.burst.Burst.{Burst}
use Rattle.bt_demand.specs.declared.plan.Plan.{Plan}
use Rattle.bt_demand.specs.Apart.{bursts_from}
use Rattle.bt_demand.specs.Burst.{IsNotAfter}
use Rattle.bt_demand.specs.Flyable.{IsFlyable, IsSentBy}
use Rattle.bt_air.specs.Range.{AreBurstsOf, AreModes, IsWord}
use Rattle.bt_machines.specs.Plans.{IsStored, first_or, plan_of, modes_of, bursts_for}
use Rattle.bt_site.proofs.WorldPlans.{plan-holds}

-- modes of so many beams each, few and short enough
modes-in-range : (beams : ℕ) (modes : List Mode) → IsWithin 1 32 beams → All (λ (mode : Mode). IsPermutation beams mode.perm) modes
    → All (λ (mode : Mode). IsWithin 1 4096 mode.duration) modes → length modes ≤ 4096 → AreModes modes
modes-in-range beams [] width perms last few = record { beams = omega arith; some = λ h. omega arith; count = omega arith; each = λ k d within. absurd (omega arith) }
modes-in-range beams (mode ∷ rest) width perms last few =
    let same : length mode.perm ≡ beams = (All-head (λ (m : Mode). IsPermutation beams m.perm) mode rest perms).count in
    record {
      beams = omega (arith, width.1);
      some = λ h. omega (arith, width.0);
      count = few;
      each = λ k d within. record {
        duration = last k d within;
        width = (perms k d within).count ∙ sym same;
        downlinks = λ i e below. let h = (perms k d within).in_range i e below in omega arith;
      };
    }

-- an edition that has a plan fits four bytes
no-plan : (found : Option Plan) → found ≡ None → IsSome found → ⊥
no-plan None none some = cc
no-plan (Some plan) none some = cc

first-word : (first : Option Plan) (edition : EditionNo) (plan : Plan) (test : Bool) → (plan.edition.0 == edition.0) ≡ test → (IsSome first → IsWord edition.0) → IsStored plan
    → IsSome (first_or first edition plan) → IsWord edition.0
first-word (Some first) edition plan test e earlier stored some = earlier refl
first-word None edition plan true e earlier stored some =
    let same : plan.edition.0 ≡ edition.0 = grind (arith, nat_tests) in let h : plan.edition.0 ≤ 4294967295 = stored.edition.1 in (omega arith, omega arith)
first-word None edition plan false e earlier stored some = let none : first_or None edition plan ≡ None = rw e refl in absurd (no-plan (first_or None edition plan) none some)

pub planned-word : (all : List Plan) (edition : EditionNo) → All IsStored all → IsSome (plan_of all edition) → IsWord edition.0
planned-word [] edition stored some = cc
planned-word (plan ∷ earlier) edition stored some =
    first-word (plan_of earlier edition) edition plan _ refl (planned-word earlier edition (All-tail IsStored plan earlier stored)) (All-head IsStored plan earlier stored) some

-- the modes and bursts of the plan of an edition, by what is known of small plans
module _ (small_modes : (net : Net) (plan : Plan) → IsFlyable net plan → All (λ mode. IsWithin 1 4096 mode.duration) plan.schedule.modes)
    (few_modes : (net : Net) (plan : Plan) → IsFlyable net plan → length plan.schedule.modes ≤ 4096)
    (small_bursts : (net : Net) (plan : Plan) (terminal : TermNo) → IsFlyable net plan → All (IsSentBy net terminal) (bursts_from terminal plan.bursts))
    (few_bursts : (net : Net) (plan : Plan) (terminal : TermNo) → IsFlyable net plan → length (bursts_from terminal plan.bursts) ≤ 4096)
    (in_order : (bursts : List Burst) (terminal : TermNo) → AllPairs IsNotAfter bursts → AllPairs IsNotAfter (bursts_from terminal bursts)) where
  plan-modes : (net : Net) (found : Option Plan) → IsSound net → IfSome found (IsFlyable net) → AreModes (modes_of found)
  plan-modes net None sound fit = record { beams = omega arith; some = λ h. omega arith; count = omega arith; each = λ k d within. absurd (omega arith) }
  plan-modes net (Some plan) sound fit =
      modes-in-range (length net.beams) plan.schedule.modes sound.beams.count fit.permutations (small_modes net plan fit) (few_modes net plan fit)

  plan-bursts : (net : Net) (found : Option Plan) (terminal : TermNo) → IsSound net → IfSome found (IsFlyable net) → IfSome found IsStored → AreBurstsOf terminal (bursts_for terminal found)
  plan-bursts net None terminal sound fit stored = record { count = omega arith; each = λ k d within. absurd (omega arith); ordered = λ i j d lt within. absurd (omega arith) }
  plan-bursts net (Some plan) terminal sound fit stored = record {
    count = few_bursts net plan terminal fit;
    each = λ k d within.
        let one = small_bursts net plan terminal fit k d within in
        record { sender = one.sender; receiver = (omega arith, omega (arith, one.receiver, sound.terminals.count.1)); start = one.start; slots = one.slots };
    ordered = in_order plan.bursts terminal stored.ordered;
  }

  pub modes-carried : (net : Net) (all : List Plan) (edition : EditionNo) → IsSound net → All (IsFlyable net) all → AreModes (modes_of (plan_of all edition))
  modes-carried net all edition sound fit = plan-modes net (plan_of all edition) sound (plan-holds (IsFlyable net) all edition fit)

  pub bursts-carried : (net : Net) (all : List Plan) (edition : EditionNo) (terminal : TermNo) → IsSound net → All (IsFlyable net) all → All IsStored all
      → AreBurstsOf terminal (bursts_for terminal (plan_of all edition))
  bursts-carried net all edition terminal sound fit stored =
      plan-bursts net (plan_of all edition) terminal sound (plan-holds (IsFlyable net) all edition fit) (plan-holds IsStored all edition stored)
