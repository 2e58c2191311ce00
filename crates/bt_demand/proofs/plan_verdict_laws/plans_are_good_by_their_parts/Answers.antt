use Rattle.bt_demand.proofs.PlanParts.{good_by_parts}
use Rattle.bt_demand.proofs.plan_verdict_laws.plans_are_good_by_their_parts.Goals as goal

pub returns : goal.returns
returns c = record { good = good_by_parts }
