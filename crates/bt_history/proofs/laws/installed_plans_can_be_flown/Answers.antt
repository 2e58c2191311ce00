use Rattle.bt_history.proofs.Flying.{plans_fly, newest_flies}
use Rattle.bt_history.proofs.laws.installed_plans_can_be_flown.Goals as goal

pub returns-clause-all : goal.returns-clause-all
returns-clause-all c = plans_fly

pub returns-clause-newest : goal.returns-clause-newest
returns-clause-newest c = newest_flies
