use Rattle.bt_demand.proofs.Flyable.{small_modes, few_modes, sent_by, few_bursts, in_order}
use Rattle.bt_demand.proofs.plan_laws.flyable_plans_are_small.Goals as goal

pub returns-clause-modes : goal.returns-clause-modes
returns-clause-modes c = small_modes

pub returns-clause-few_modes : goal.returns-clause-few_modes
returns-clause-few_modes c = few_modes

pub returns-clause-bursts : goal.returns-clause-bursts
returns-clause-bursts c = sent_by

pub returns-clause-few_bursts : goal.returns-clause-few_bursts
returns-clause-few_bursts c = few_bursts

pub returns-clause-ordered : goal.returns-clause-ordered
returns-clause-ordered c = in_order
