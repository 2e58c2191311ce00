use Rattle.bt_plan_chart.proofs.Overlaps.{apart_part, apart_plan}
use Rattle.bt_demand.proofs.BurstTriples.{bursts_apart}
use Rattle.bt_plan_chart.proofs.laws.good_plans_have_no_overlap.Goals as goal

pub returns-clause-apart : goal.returns-clause-apart
returns-clause-apart c = apart_plan

pub returns-clause-good : goal.returns-clause-good
returns-clause-good c = λ net links plan sound between good. apart_plan net plan sound between (bursts_apart net plan.bursts good.carries.carried.apart)

pub returns-clause-drawn : goal.returns-clause-drawn
returns-clause-drawn c = apart_part
