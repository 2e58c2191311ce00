use Rattle.bt_demand.proofs.OnePlanVerdict.{the_same}
use Rattle.bt_demand.proofs.plan_verdict_laws.one_plan_verdict.Goals as goal

pub returns : goal.returns
returns c = record { same = the_same }
