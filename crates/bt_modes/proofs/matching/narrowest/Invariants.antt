use Rattle.std.proofs.Common.{◌≡◌, ℕ, ◌<◌, ◌≤◌, Some, length}
use Rattle.bt_matrix.specs.Traffic.{entry}
use Rattle.bt_modes.specs.Matching.{column_of}
use Rattle.bt_modes.proofs.matching.narrowest.Given as goal

-- the row is the one of the fewest slots so far
abbrev pub invariant-loop-row : goal.invariant-loop-row
invariant-loop-row l = record {
  row : l.narrowest < length l.columns;
  reached : (down : ℕ) → column_of l.columns l.narrowest ≡ Some down → entry l.table l.narrowest down ≡ l.least;
  fewest : (row down : ℕ) → row < l.row → column_of l.columns row ≡ Some down → l.least ≤ entry l.table row down;
}
