-- piece by piece
use Rattle.std.proofs.Common.{◌++◌, codes}
use Rattle.bt_words.proofs.Extending.{two_behind}
use Rattle.bt_picture.specs.Picture.{field, opening}
use Rattle.bt_picture.proofs.writer.write_dot.Goals as goal

pub returns : goal.returns
returns c =
    let before = c.args.out.now.items in
    let opened = opening (codes "<circle class='") c.args.style in
    let across = field (codes "' cx='") c.args.at.x in
    let down = field (codes "' cy='") c.args.at.y in
    let radius = field (codes "' r='") c.args.radius in
    two_behind before _ _ (opened ++ across ++ down ++ radius) (codes "'/>")
    (two_behind before _ _ (opened ++ across ++ down) radius
    (two_behind before _ _ (opened ++ across) down
    (two_behind before _ _ opened across c.in_ok-write_opening.ensures c.in_ok-write_number.ensures)
    c.in_ok-write_number-2.ensures)
    c.in_ok-write_number-3.ensures)
    c.in_ok-extend_from_slice.ensures.items
