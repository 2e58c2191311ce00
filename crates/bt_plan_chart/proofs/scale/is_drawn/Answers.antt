use Rattle.std.proofs.Common.{true, false, arith}
use Rattle.bt_plan_chart.proofs.Places.{same_read}
use Rattle.bt_plan_chart.proofs.scale.is_drawn.Goals as goal

pub returns : goal.returns
returns c = same_read c.args.scale.drawn c.args.beam false true (omega (arith, c.requires.scale.drawn, c.requires.beam))
