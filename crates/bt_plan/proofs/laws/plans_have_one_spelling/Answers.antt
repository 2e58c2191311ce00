-- the laws of the text of a plan
use Rattle.bt_plan.proofs.OnePlan.{plan_spelled}
use Rattle.bt_plan.proofs.PlanReadBack.{plan_read}
use Rattle.bt_plan.proofs.laws.plans_have_one_spelling.Goals as goal

pub returns-clause-read : goal.returns-clause-read
returns-clause-read c = λ net plan sound range. plan_read net sound plan range

pub returns-clause-spelled : goal.returns-clause-spelled
returns-clause-spelled c = λ net plan text sound read. (plan_spelled net text plan sound.beams.count.1 read).0

pub returns-clause-in_range : goal.returns-clause-in_range
returns-clause-in_range c = λ net plan text sound read. (plan_spelled net text plan sound.beams.count.1 read).1
