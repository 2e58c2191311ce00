-- what is left of the text gets shorter
use Rattle.std.proofs.Common.{length}
use Rattle.bt_chart.proofs.answers.told_by.Given as goal

abbrev pub decreases-loop-line : goal.decreases-loop-line
decreases-loop-line l = length l.rest
