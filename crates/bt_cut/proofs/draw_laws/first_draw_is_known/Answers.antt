use Rattle.std.proofs.Common.{refl}
use Rattle.bt_cut.specs.Generator.{drawn, next}
use Rattle.bt_cut.proofs.draw_laws.first_draw_is_known.Goals as goal

pub returns : goal.returns
unfolding drawn next
returns c = record { first = refl }
