use Rattle.std.proofs.Common.{◌≤◌, ◌*◌, ◌-◌}
use Rattle.bt_matrix.specs.Copy.{IsCopied}
use Rattle.bt_matrix.proofs.crosslinked.Crosslinked.of.Given as goal

-- the rows so far are copied, and there is room for the others
abbrev pub invariant-loop-up : goal.invariant-loop-up
invariant-loop-up l = IsCopied l.matrix l.copy.rows l.up 0 × ((l.size - l.up) * l.size ≤ l.copy.room)
