use Rattle.bt_picture.specs.Picture.{drawn}
use Rattle.bt_picture.proofs.Parts.{framed}
use Rattle.bt_picture.proofs.pen_writer.write_picture.Goals as goal

pub returns : goal.returns
returns c = record { picture = framed _ _ _ _ _ c.args.width c.args.height (drawn c.args.title) c.in_ok-write_head.ensures.written c.in_ok-write_alone.ensures.written c.in_ok-write_drawings.ensures c.in_ok-write_foot.ensures.written }
