use Rattle.std.proofs.Common.{ℕ, ◌<◌, IsSome}
use Rattle.bt_modes.specs.Matching.{column_of}
use Rattle.bt_modes.proofs.matching.has_free_row.Given as goal

-- the rows so far have columns
abbrev pub invariant-loop-column : goal.invariant-loop-column
invariant-loop-column l = (k : ℕ) → k < l.column-index → IsSome (column_of l.columns k)
