use Rattle.std.proofs.Common.{map}
use Rattle.bt_picture.specs.Picture.{Titled, drawn, words_text}
use Rattle.bt_picture.proofs.Parts.{adds_one}
use Rattle.bt_picture.proofs.pen_writer.write_group.Goals as goal

pub returns : goal.returns
returns c = adds_one _ _ (Titled (words_text c.args.title.now) (map drawn c.args.shapes.now)) c.in_ok-write_titled.ensures.written
