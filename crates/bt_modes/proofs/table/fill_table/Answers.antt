use Rattle.std.proofs.Common.{◌≡◌, length, arith}
use Rattle.bt_modes.proofs.Tables.{looks-all}
use Rattle.bt_modes.proofs.table.fill_table.Goals as goal

pub returns-clause-looks : goal.returns-clause-looks
returns-clause-looks g c =
    let all : c.loop-row.row ≡ length (g.M.Rows.rows c.args.matrix.now) = omega (arith, c.size-row-end.ensures.size) in
    looks-all (length c.args.table.now) (g.M.Rows.rows c.args.matrix.now) c.loop-row.table c.loop-row.steps c.args.steps.now (rw (← all) c.loop-row.invariant)
