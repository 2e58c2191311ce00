use Rattle.bt_picture.specs.Picture.{Alone, drawn}
use Rattle.bt_picture.proofs.Parts.{adds_one}
use Rattle.bt_picture.proofs.pen_writer.write_plain.Goals as goal

pub returns : goal.returns
returns c = adds_one _ _ (Alone (drawn c.args.shape)) c.in_ok-write_alone.ensures.written
