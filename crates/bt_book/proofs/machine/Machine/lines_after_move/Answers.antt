use Rattle.bt_book.proofs.Causes.{now_lines-Move}
use Rattle.bt_book.proofs.machine.Machine.lines_after_move.Goals as goal

-- each line has the units more, but where the first link leaves as many free
pub returns : goal.returns
returns c =
    let row = c.row_of-row_slots in
    let column = c.column_of-column_slots in
    now_lines-Move _ c.args.self.now c.self.inside.kept.occupancy.links c.args.from c.args.to c.args.new_from c.args.new_to c.args.units c.get-slots.result
    c.row_of.result.0 c.column_of.result.0 row.result.0 column.result.0 row.result.1 column.result.1 c.freed.result c.freed-2.result
    c.self.view_is c.self.invariant.keeps c.get-slots.ensures.same c.requires.held
    c.row_of.ensures.beam c.column_of.ensures.beam row.ensures.beam column.ensures.beam
    c.row_of.ensures.in_range c.column_of.ensures.in_range row.ensures.in_range column.ensures.in_range
    row.ensures.sum column.ensures.sum c.freed.ensures.slots c.freed-2.ensures.slots
