use Rattle.bt_demand.proofs.PlanParts.{good_modes, good_apart, good_served}
use Rattle.bt_demand.proofs.plan_verdict_laws.good_plans_have_their_parts.Goals as goal

pub returns-clause-modes : goal.returns-clause-modes
returns-clause-modes c = good_modes

pub returns-clause-apart : goal.returns-clause-apart
returns-clause-apart c = good_apart

pub returns-clause-held : goal.returns-clause-held
returns-clause-held c = λ net links plan good. good.carries.held

pub returns-clause-served : goal.returns-clause-served
returns-clause-served c = good_served
