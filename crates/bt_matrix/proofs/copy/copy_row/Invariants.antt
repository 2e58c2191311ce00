use Rattle.std.proofs.Common.{◌≤◌, ◌+◌}
use Rattle.bt_matrix.specs.Copy.{IsCopied}
use Rattle.bt_matrix.proofs.copy.copy_row.Given as goal

-- the entries so far are copied
abbrev pub invariant-loop-down : goal.invariant-loop-down
invariant-loop-down l = IsCopied l.matrix l.copy.rows l.up.0 l.down × (l.fn.copy.room ≤ l.copy.room + l.down)
