use Rattle.std.proofs.Common.{map}
use Rattle.bt_matrix.specs.Traffic.{column_sum}
use Rattle.bt_matrix.proofs.Lines.{IsFilled}
use Rattle.bt_matrix.proofs.dense.column_sums_of.Given as goal

-- the sums of the columns so far
abbrev pub invariant-loop-down : goal.invariant-loop-down
invariant-loop-down l = IsFilled (column_sum (map (λ row. row.items) l.rows)) l.sums l.down
