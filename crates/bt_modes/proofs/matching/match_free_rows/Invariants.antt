use Rattle.std.proofs.Common.{◌≡◌, ℕ, ◌<◌, length, IsSome}
use Rattle.bt_modes.specs.Matching.{column_of}
use Rattle.bt_modes.specs.Search.{IsMatching, AreHolders}
use Rattle.bt_modes.proofs.matching.match_free_rows.Given as goal

-- the rows so far have a column
abbrev pub invariant-loop-row : goal.invariant-loop-row
invariant-loop-row l = record {
  size : length l.columns ≡ length l.initial.columns;
  matching : IsMatching l.table l.columns;
  holders : AreHolders l.columns l.holders;
  so_far : (row : ℕ) → row < l.row → IsSome (column_of l.columns row);
}
