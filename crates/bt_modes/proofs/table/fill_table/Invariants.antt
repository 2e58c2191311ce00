use Rattle.std.proofs.Common.{length}
use Rattle.bt_modes.proofs.Tables.{IsTableTo}
use Rattle.bt_modes.proofs.table.fill_table.Given as goal

-- the rows so far stand in the table
abbrev pub invariant-loop-row : goal.invariant-loop-row
invariant-loop-row g l = IsTableTo (length l.fn.table) (g.M.Rows.rows l.matrix) l.table l.row l.steps l.fn.steps
