use Rattle.std.proofs.Common.{◌≡◌, ◌≤◌, ◌*◌, ℕ, length, slice_index}
use Rattle.bt_trans.specs.Border.{cut, column_wants}
use Rattle.bt_trans.proofs.border.column_cuts.Given as goal

-- the cuts so far
abbrev pub invariant-loop-down : goal.invariant-loop-down
invariant-loop-down l = record {
  long : length l.cuts ≡ 33;
  so_far : (up : ℕ) → up ≤ l.down → slice_index l.cuts up ≡ cut (column_wants l.matrix l.sum) up;
  small : slice_index l.cuts l.down ≤ 1048576 * l.down;
}
