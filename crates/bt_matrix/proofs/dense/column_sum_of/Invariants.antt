use Rattle.std.proofs.Common.{◌≡◌, sum_by, slice_index, take}
use Rattle.bt_matrix.proofs.dense.column_sum_of.Given as goal

-- the sum over the rows so far
abbrev pub invariant-loop-row : goal.invariant-loop-row
invariant-loop-row l = l.sum ≡ sum_by (λ row. slice_index row.items l.down) (take l.row-index l.rows)
