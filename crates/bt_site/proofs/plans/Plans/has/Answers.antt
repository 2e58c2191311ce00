use Rattle.std.proofs.Common.{sym, ap, Option}
use Rattle.std.specs.Prelude.{is_some}
use Rattle.bt_demand.specs.Plan.{empty_plan}
use Rattle.bt_demand.specs.declared.plan.Plan.{Plan}
use Rattle.bt_site.proofs.plans.Plans.has.Goals as goal

pub returns-in-Some : goal.returns-in-Some
returns-in-Some c = record { planned = sym (ap (λ (plan : Option Plan). is_some plan) (c.in-Some.ensures.place.is empty_plan)) }
