use Rattle.std.proofs.Common.{◌≡◌, map, replicate}
use Rattle.bt_matrix.proofs.dense.Dense.new.Given as goal

-- the rows so far are zeros
abbrev pub invariant-loop : goal.invariant-loop
invariant-loop l = map (λ row. row.items) l.rows.items ≡ replicate l.counter (replicate l.size 0)
