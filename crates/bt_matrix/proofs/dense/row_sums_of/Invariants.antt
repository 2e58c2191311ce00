use Rattle.std.proofs.Common.{map}
use Rattle.bt_matrix.specs.Traffic.{row_sum}
use Rattle.bt_matrix.proofs.Lines.{IsFilled}
use Rattle.bt_matrix.proofs.dense.row_sums_of.Given as goal

-- the sums of the rows so far
abbrev pub invariant-loop-up : goal.invariant-loop-up
invariant-loop-up l = IsFilled (row_sum (map (λ row. row.items) l.rows)) l.sums l.up
