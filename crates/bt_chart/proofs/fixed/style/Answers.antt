use Rattle.std.proofs.Common.{refl}
use Rattle.bt_chart.specs.Fixed.{style_text}
use Rattle.bt_chart.proofs.fixed.style.Goals as goal

pub returns : goal.returns
unfolding style_text
returns c = refl
