use Rattle.std.proofs.Common.{◌≡◌, None, map, replicate}
use Rattle.bt_matrix.proofs.fresh.empty_table.Given as goal

-- the lines so far name no node
abbrev pub invariant-loop : goal.invariant-loop
invariant-loop l = map (λ line. line.items) l.table.items ≡ replicate l.counter (replicate l.size None)
