use Rattle.std.proofs.Common.{length}
use Rattle.bt_modes.proofs.Walked.{IsRead, left_of}
use Rattle.bt_modes.proofs.table.slots_of_row.Given as goal

-- the entries so far stand at their columns
abbrev pub invariant-loop-next : goal.invariant-loop-next
invariant-loop-next g l = IsRead (g.M.Rows.rows l.matrix) l.row l.slots l.next l.steps l.fn.steps

abbrev pub decreases-loop-next : goal.decreases-loop-next
decreases-loop-next g l = left_of l.next (length (g.M.Rows.rows l.matrix))
