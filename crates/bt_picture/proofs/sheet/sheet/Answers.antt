use Rattle.std.proofs.Common.{refl}
use Rattle.bt_picture.specs.Sheet.{sheet_text}
use Rattle.bt_picture.proofs.sheet.sheet.Goals as goal

pub returns : goal.returns
unfolding sheet_text
returns c = record { sheet = refl }
