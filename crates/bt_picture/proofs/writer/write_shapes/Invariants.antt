-- the shapes so far
use Rattle.std.proofs.Common.{◌≡◌, ◌++◌, flat_map, take}
use Rattle.bt_picture.specs.Picture.{drawn, shape_text}
use Rattle.bt_picture.proofs.writer.write_shapes.Given as goal

abbrev pub invariant-loop-shape : goal.invariant-loop-shape
invariant-loop-shape l = l.out.items ≡ l.fn.out.items ++ flat_map (λ shape. shape_text (drawn shape)) (take l.shape-index l.shapes)
