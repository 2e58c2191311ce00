use Rattle.bt_book.proofs.Causes.{now_lines-Add}
use Rattle.bt_book.proofs.machine.Machine.lines_after_add.Goals as goal

-- each line has the units more
pub returns : goal.returns
returns c =
    let row = c.row_of-row_slots in
    let column = c.column_of-column_slots in
    now_lines-Add _ c.args.self.now c.self.inside.kept.occupancy.links c.args.from c.args.to c.args.units c.get-slots.result row.result.0 column.result.0 row.result.1 column.result.1
    c.self.view_is c.self.invariant.keeps c.get-slots.ensures.same row.ensures.beam column.ensures.beam row.ensures.in_range column.ensures.in_range row.ensures.sum column.ensures.sum
