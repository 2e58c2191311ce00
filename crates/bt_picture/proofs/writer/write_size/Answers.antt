-- piece by piece
use Rattle.std.proofs.Common.{◌++◌, ◌/◌, codes}
use Rattle.bt_words.proofs.Extending.{two_behind, three_behind}
use Rattle.bt_picture.specs.declared.shape.TheConstants.{TWIPS}
use Rattle.bt_picture.specs.Picture.{field, view_text}
use Rattle.bt_picture.proofs.writer.write_size.Goals as goal

pub returns : goal.returns
returns c =
    let before = c.args.out.now.items in
    let opened = codes "<svg xmlns='http://www.w3.org/2000/svg'" in
    let width = field (codes " width='") (c.args.width / TWIPS) in
    let height = field (codes "' height='") (c.args.height / TWIPS) in
    three_behind c.write_view.result before _ _ _ (opened ++ width) height (view_text c.args.width c.args.height)
    (two_behind before _ _ opened width c.in_ok-extend_from_slice.ensures.items c.in_ok-write_number.ensures)
    c.in_ok-write_number-2.ensures
    c.write_view.ensures
