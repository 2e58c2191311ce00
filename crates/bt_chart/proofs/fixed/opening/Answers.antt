use Rattle.std.proofs.Common.{refl}
use Rattle.bt_chart.specs.Fixed.{opening_text}
use Rattle.bt_chart.proofs.fixed.opening.Goals as goal

pub returns : goal.returns
unfolding opening_text
returns c = refl
