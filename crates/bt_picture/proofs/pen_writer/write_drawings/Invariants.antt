-- only parts were added so far
use Rattle.bt_picture.specs.Drawn.{AddsParts}
use Rattle.bt_picture.proofs.pen_writer.write_drawings.Given as goal

abbrev pub invariant-loop-drawing : goal.invariant-loop-drawing
invariant-loop-drawing l = AddsParts l.fn.out.items l.out.items
