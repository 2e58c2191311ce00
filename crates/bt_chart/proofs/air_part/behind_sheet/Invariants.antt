-- what is left of the picture gets shorter
use Rattle.std.proofs.Common.{length}
use Rattle.bt_chart.proofs.air_part.behind_sheet.Given as goal

abbrev pub decreases-loop-line : goal.decreases-loop-line
decreases-loop-line l = length l.rest
