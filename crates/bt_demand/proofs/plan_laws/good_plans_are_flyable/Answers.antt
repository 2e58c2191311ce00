use Rattle.bt_demand.proofs.Flyable.{flyable}
use Rattle.bt_demand.proofs.plan_laws.good_plans_are_flyable.Goals as goal

pub returns : goal.returns
returns c = record { flyable = flyable }
