-- the beams are on the matrix, whose lines are within the frame
use Rattle.std.proofs.Common.{arith}
use Rattle.bt_cut.proofs.Gained.{column_kept, in_matrix, row_kept}
use Rattle.bt_cut.proofs.made.fits.Goals as goal

pub row_sum-requires : goal.row_sum-requires
row_sum-requires c = record { up = in_matrix c.args.net.now c.args.made.now.demand c.args.made.now.matrix c.args.up.0 c.requires.stands.matrix c.requires.up }

pub overflow_add-row_sum : goal.overflow_add-row_sum
overflow_add-row_sum c =
    let row = row_kept c.args.net.now c.args.made.now.demand c.args.made.now.matrix c.args.up c.requires.stands.matrix c.requires.stands.fits c.requires.up in
    omega (arith, row, c.row_sum.ensures.sum, c.slots-slots.ensures.same, c.slots-slots.ensures.in_range.1, c.requires.units)

pub column_sum-requires : goal.column_sum-requires
column_sum-requires c = record { down = in_matrix c.args.net.now c.args.made.now.demand c.args.made.now.matrix c.args.down.0 c.requires.stands.matrix c.requires.down }

pub overflow_add-result : goal.overflow_add-result
overflow_add-result c =
    let column = column_kept c.args.net.now c.args.made.now.demand c.args.made.now.matrix c.args.down c.requires.stands.matrix c.requires.stands.fits c.requires.down in
    omega (arith, column, c.column_sum.ensures.sum, c.slots-slots.ensures.same, c.slots-slots.ensures.in_range.1, c.requires.units)
