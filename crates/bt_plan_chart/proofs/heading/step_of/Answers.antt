use Rattle.bt_plan_chart.specs.Chart.{step_of}
use Rattle.bt_plan_chart.proofs.heading.step_of.Goals as goal

pub returns : goal.returns
unfolding step_of
returns c = c.step_among.ensures
