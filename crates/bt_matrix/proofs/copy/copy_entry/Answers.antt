use Rattle.std.proofs.Common.{arith}
use Rattle.bt_matrix.proofs.Copies.{fits}
use Rattle.bt_matrix.proofs.copy.copy_entry.Goals as goal

pub add-requires-clause-row : goal.add-requires-clause-row
add-requires-clause-row c =
    let room = fits c.args.matrix.now c.args.copy.now.rows c.args.up.0 c.args.down.0 c.size-size.ensures.traffic c.size-same.ensures.traffic
    c.requires.row c.requires.column c.requires.so_far in
    omega (arith, room.0, c.get-units.ensures.entry)

pub add-requires-clause-column : goal.add-requires-clause-column
add-requires-clause-column c =
    let room = fits c.args.matrix.now c.args.copy.now.rows c.args.up.0 c.args.down.0 c.size-size.ensures.traffic c.size-same.ensures.traffic
    c.requires.row c.requires.column c.requires.so_far in
    omega (arith, room.1, c.get-units.ensures.entry)
