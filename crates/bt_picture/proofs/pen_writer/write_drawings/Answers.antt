use Rattle.bt_picture.proofs.Parts.{adds_on}
use Rattle.bt_picture.proofs.pen_writer.write_drawings.Goals as goal

pub loop-drawing-preserved : goal.loop-drawing-preserved
loop-drawing-preserved c = adds_on _ _ _ c.loop-drawing.invariant c.in_ok-write_drawing.ensures
