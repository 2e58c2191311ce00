use Rattle.std.proofs.Common.{List, subst, All}
use Rattle.bt_frame.specs.declared.mode.Mode.{Mode}
use Rattle.bt_demand.specs.declared.burst.Burst.{Burst}
use Rattle.bt_demand.specs.Plan.{IsHeld}
use Rattle.bt_demand.specs.Rows.{all_links}
use Rattle.bt_demand.specs.PlanVerdict.{AreApart, IsFirstUnserved}
use Rattle.bt_demand.specs.Unserved.{AreServed}
use Rattle.bt_demand.specs.Verdict.{IsFirstWithout}
use Rattle.bt_demand.proofs.plan_check.bursts_verdict.Goals as goal

-- a burst that no mode holds
pub returns-in-Some-first_unheld : goal.returns-in-Some-first_unheld
returns-in-Some-first_unheld c = (
  c.requires.modes,
  subst (AreApart c.args.net.now) c.as_slice-bursts.ensures.same c.in_default.ensures,
  subst (λ (modes : List Mode). IsFirstWithout (IsHeld c.args.net.now modes) c.args.plan.now.bursts c.in-Some-first_unheld.burst) c.as_slice.ensures.same
      (subst (λ (bursts : List Burst). IsFirstWithout (IsHeld c.args.net.now c.as_slice.result.now) bursts c.in-Some-first_unheld.burst) c.as_slice-bursts.ensures.same c.in-Some-first_unheld.ensures),
)

-- a link that has other slots than it asks for
pub returns-in-Some-first_unserved : goal.returns-in-Some-first_unserved
returns-in-Some-first_unserved c =
    rw c.verdict.ensures (
      c.requires.modes,
      subst (AreApart c.args.net.now) c.as_slice-bursts.ensures.same c.in_default.ensures,
      subst (λ (modes : List Mode). All (IsHeld c.args.net.now modes) c.args.plan.now.bursts) c.as_slice.ensures.same
          (subst (All (IsHeld c.args.net.now c.as_slice.result.now)) c.as_slice-bursts.ensures.same c.in_default-first_unheld.ensures),
      subst (λ (bursts : List Burst). IsFirstUnserved c.args.net.now (all_links c.args.rows.now) bursts c.in-Some-first_unserved.unserved.from c.in-Some-first_unserved.unserved.to c.in-Some-first_unserved.unserved.want c.in-Some-first_unserved.unserved.have)
          c.as_slice-bursts.ensures.same c.in-Some-first_unserved.ensures,
    )

-- nothing is wrong
pub returns-in-None : goal.returns-in-None
returns-in-None c =
    c.plans_are_good_by_their_parts.ensures.good c.args.net.now (all_links c.args.rows.now) c.args.plan.now c.requires.demand c.requires.links c.requires.bursts c.requires.modes
    (subst (AreApart c.args.net.now) c.as_slice-bursts.ensures.same c.in_default.ensures)
    (subst (λ (modes : List Mode). All (IsHeld c.args.net.now modes) c.args.plan.now.bursts) c.as_slice.ensures.same
    (subst (All (IsHeld c.args.net.now c.as_slice.result.now)) c.as_slice-bursts.ensures.same c.in_default-first_unheld.ensures))
    (subst (AreServed c.args.net.now (all_links c.args.rows.now)) c.as_slice-bursts.ensures.same c.in-None.ensures)
