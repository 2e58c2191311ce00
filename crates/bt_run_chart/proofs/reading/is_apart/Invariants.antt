-- what is left of the text gets shorter
use Rattle.std.proofs.Common.{length}
use Rattle.bt_run_chart.proofs.reading.is_apart.Given as goal

abbrev pub decreases-loop-line : goal.decreases-loop-line
decreases-loop-line l = length l.rest
