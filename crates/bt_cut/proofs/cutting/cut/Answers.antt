use Rattle.std.proofs.Common.{List, length, AllPairs, sym, subst, arith}
use Rattle.std.proofs.lemmas.List.Sorted.{length_permutation}
use Rattle.bt_demand.specs.declared.burst.Burst.{Burst}
use Rattle.bt_demand.specs.Burst.{IsNotAfter}
use Rattle.bt_cut.specs.Parts.{AreParts}
use Rattle.bt_cut.proofs.Plans.{IsCutting-parts, is_for, cutting_good, plan_between, parts_in_order}
use Rattle.bt_cut.proofs.cutting.cut.Goals as goal

pub bursts_of-requires-clause-permutations : goal.bursts_of-requires-clause-permutations
bursts_of-requires-clause-permutations c =
    rw c.as_slice.ensures.same (is_for c.args.net.now c.args.demand.now c.args.schedule c.requires.good).permutations

pub bursts_of-requires-clause-carried : goal.bursts_of-requires-clause-carried
bursts_of-requires-clause-carried c =
    rw c.as_slice.ensures.same (is_for c.args.net.now c.args.demand.now c.args.schedule c.requires.good).carried

pub of-requires-clause-few : goal.of-requires-clause-few
of-requires-clause-few c =
    omega (arith, length_permutation c.in_ok-bursts.bursts.items c.in_ok-ordered.ordered.items c.in_ok-ordered.ensures.moved, c.in_ok-bursts.ensures.few, c.in_ok-bursts.bursts.ok.0, c.in_ok-ordered.ordered.ok.0)

-- the bursts of all links, in order
in_order_parts : (c : goal.After-of) → AreParts c.args.net.now c.args.demand.now c.args.schedule.modes (length c.args.demand.now) c.of.result
in_order_parts c =
    parts_in_order c.args.net.now c.args.demand.now c.args.schedule.modes c.as_slice.result.now (length c.args.demand.now) c.in_ok-bursts.bursts.items c.in_ok-ordered.ordered.items c.of.result
    c.as_slice.ensures.same c.of.ensures.same c.in_ok-ordered.ensures.moved c.in_ok-bursts.ensures.parts

pub returns-clause-bursts : goal.returns-clause-bursts
returns-clause-bursts c =
    IsCutting-parts c.args.net.now c.args.demand.now c.args.schedule.modes c.of.result (in_order_parts c)
    (subst (λ (bursts : List Burst). AllPairs IsNotAfter bursts) (sym c.of.ensures.same) c.in_ok-ordered.ensures.ordered)

pub returns-clause-terminals : goal.returns-clause-terminals
returns-clause-terminals c = plan_between c.args.net.now c.args.demand.now c.args.schedule.modes c.of.result c.requires.terminals (in_order_parts c)

pub returns-clause-good_plan : goal.returns-clause-good_plan
returns-clause-good_plan c =
    cutting_good c.args.net.now c.args.demand.now (record { edition = c.args.edition; schedule = c.args.schedule; bursts = c.of.result })
    c.in_ok-bursts.ensures.network c.in_ok-bursts.ensures.demand c.requires.terminals c.requires.good (returns-clause-bursts c)
