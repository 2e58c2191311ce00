use Rattle.std.proofs.Common.{◌≡◌, ◌≤◌, ◌*◌, ℕ, length, slice_index}
use Rattle.bt_trans.specs.Border.{cut, row_wants}
use Rattle.bt_trans.proofs.border.row_cuts.Given as goal

-- the cuts so far
abbrev pub invariant-loop-up : goal.invariant-loop-up
invariant-loop-up l = record {
  long : length l.cuts ≡ 33;
  so_far : (up : ℕ) → up ≤ l.up → slice_index l.cuts up ≡ cut (row_wants l.matrix l.sum) up;
  small : slice_index l.cuts l.up ≤ 1048576 * l.up;
}
