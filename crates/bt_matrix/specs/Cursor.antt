-- The positive entries of a row, from left to right.
use Rattle.std.specs.Prelude.{ℕ, zero, suc, ◌+◌, ◌<◌, List, [], ◌∷◌, Option, None, Some, drop, length}
use Rattle.bt_frame.specs.declared.numbers.BeamNo.{BeamNo}
use Rattle.std.specs.Option.{unwrap_or}
use Rattle.bt_matrix.specs.Traffic.{row_of, entry}
use Rattle.bt_matrix.specs.Table.{place}

-- the positive ones of these entries with their columns, of which the first has this number
abbrev pub positives : ℕ → List ℕ → List (ℕ × ℕ)
positives column [] = []
positives column (zero ∷ entries) = positives (column + 1) entries
positives column (suc n ∷ entries) = (column, suc n) ∷ positives (column + 1) entries

-- the first column behind this one, or of all
abbrev pub column_behind : Option BeamNo → ℕ
column_behind None = 0
column_behind (Some down) = down.0 + 1

-- the positive entries of a row behind one of them, or all
abbrev pub entries_behind : List (List ℕ) → ℕ → Option BeamNo → List (ℕ × ℕ)
entries_behind rows up last = positives (column_behind last) (drop (column_behind last) (row_of rows up))

-- this column of the row has a positive entry, if one is named
abbrev pub HasEntry : List (List ℕ) → ℕ → Option BeamNo → Type 0
HasEntry rows up None = Unit {0}
HasEntry rows up (Some down) = (down.0 < length rows) × (0 < entry rows up down.0)

-- the node from whose right link the walk goes on
abbrev pub start_of : List (List (Option ℕ)) → ℕ → Option BeamNo → ℕ
start_of table up None = up
start_of table up (Some down) = unwrap_or (place table up down.0) up
