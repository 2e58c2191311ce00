use Rattle.bt_history.proofs.GoodPlans.{plans_good}
use Rattle.bt_history.proofs.laws.installed_plans_are_good.Goals as goal

pub returns : goal.returns
returns c = record { good = plans_good }
