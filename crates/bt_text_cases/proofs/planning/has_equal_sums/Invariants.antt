use Rattle.std.proofs.Common.{◌≡◌, ℕ, ◌<◌}
use Rattle.bt_matrix.specs.Traffic.{row_sum, column_sum}
use Rattle.bt_text_cases.proofs.planning.has_equal_sums.Given as goal

-- the lines so far have the sum
abbrev pub invariant-loop-beam : goal.invariant-loop-beam
invariant-loop-beam l = record {
  rows : (up : ℕ) → up < l.beam → row_sum l.matrix up ≡ l.sum;
  columns : (down : ℕ) → down < l.beam → column_sum l.matrix down ≡ l.sum;
}
