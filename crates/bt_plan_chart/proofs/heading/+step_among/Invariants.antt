use Rattle.std.proofs.Common.{length}
use Rattle.bt_plan_chart.proofs.heading.+step_among.Given as goal

abbrev pub decreases-step_among : goal.decreases-step_among
decreases-step_among l = length l.steps.now
