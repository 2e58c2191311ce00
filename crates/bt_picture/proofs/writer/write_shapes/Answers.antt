use Rattle.std.proofs.Common.{◌++◌, ap, sym, ◌∙◌}
use Rattle.std.proofs.lemmas.List.Folds.{flat_map-map}
use Rattle.bt_words.proofs.Extending.{one_more, all_of}
use Rattle.bt_picture.specs.Picture.{drawn, shape_text}
use Rattle.bt_picture.proofs.writer.write_shapes.Goals as goal

pub loop-shape-preserved : goal.loop-shape-preserved
loop-shape-preserved c = one_more (λ shape. shape_text (drawn shape)) c.args.shapes.now c.loop-shape.shape-index _ _ _ _ c.loop-shape-test.true c.loop-shape.invariant c.in_ok-write_shape.ensures

pub returns : goal.returns
returns c =
    all_of (λ shape. shape_text (drawn shape)) c.args.shapes.now c.loop-shape.shape-index _ _ c.loop-shape-test.false c.loop-shape.invariant
    ∙ ap (λ text. c.args.out.now.items ++ text) (sym (flat_map-map shape_text drawn c.args.shapes.now))
