-- Serving a matrix mode by mode: no line of what is left of it is ever longer than the slots that are left.
use Rattle.std.specs.Prelude.{◌≡◌, ℕ, ◌+◌, ◌-◌, ◌<◌, ◌≤◌, ◌⊎◌, min, List, length, All, slice_index}
use Rattle.bt_frame.specs.declared.mode.Mode.{Mode}
use Rattle.bt_frame.specs.declared.schedule.Critical.{Critical}
use Rattle.bt_matrix.specs.Traffic.{entry, row_of, row_sum, column_sum, line_sum, IsLine, IsTraffic}
use Rattle.bt_matrix.specs.Good.{IsPermutation, slots_in, slots_of, total_duration}

-- the most slots for which a connection may be held: its own, and the smaller slack of its row and its column
abbrev pub hold : List (List ℕ) → ℕ → ℕ → ℕ → ℕ
hold rows left up down = entry rows up down + min (left - row_sum rows up) (left - column_sum rows down)

-- nothing stands in the table past so many beams
pub record IsWithinSize (table : List (List ℕ)) (size : ℕ) : Type 0 where
  pub rows : (up down : ℕ) → size ≤ up → entry table up down ≡ 0
  pub columns : (up down : ℕ) → size ≤ down → entry table up down ≡ 0

-- a table of these, and nothing past the matrix
pub record HasHolds (rows : List (List ℕ)) (left : ℕ) (table : List (List ℕ)) : Type 0 where
  pub holds : (up down : ℕ) → up < length rows → down < length rows → entry table up down ≡ hold rows left up down
  pub past : IsWithinSize table (length rows)

-- every connection of the permutation may be held
abbrev pub IsOpen : List (List ℕ) → List ℕ → Type 0
IsOpen table perm = (up : ℕ) → up < length perm → 0 < entry table up (slice_index perm up)

-- The connections of the permutation may be held for so many slots: what their lines ask for besides fits into the slots
-- that are then left.
pub record MayHold (rows : List (List ℕ)) (left : ℕ) (perm : List ℕ) (slots : ℕ) : Type 0 where
  pub within : slots ≤ left
  pub of_rows : (up : ℕ) → up < length rows → slots + row_sum rows up ≤ left + entry rows up (slice_index perm up)
  pub of_columns : (up : ℕ) → up < length rows
      → slots + column_sum rows (slice_index perm up) ≤ left + entry rows up (slice_index perm up)

-- so many slots fill all that are left, or the row or the column of a connection with its own slots
abbrev pub IsReached : List (List ℕ) → ℕ → List ℕ → ℕ → Type 0
IsReached rows left perm slots =
    (slots ≡ left) ⊎ ((up : ℕ) × (up < length rows) × ((slots + row_sum rows up ≡ left + entry rows up (slice_index perm up))
    ⊎ (slots + column_sum rows (slice_index perm up) ≡ left + entry rows up (slice_index perm up))))

-- a connection had slots, and has none
abbrev pub EndsEntry : List (List ℕ) → List (List ℕ) → Type 0
EndsEntry old new = (up : ℕ) × (down : ℕ) × (up < length old) × (down < length old) × (0 < entry old up down) × (entry new up down ≡ 0)

-- a line asked for fewer slots than were left, and asks for all that are left after so many
abbrev pub FillsLine : List (List ℕ) → ℕ → ℕ → List (List ℕ) → Type 0
FillsLine old left slots new = (line : Critical) × IsLine old line × (line_sum old line < left) × (line_sum new line + slots ≡ left)

-- a mode serves part of the matrix, and what is left of it fits into the slots that are then left
pub record ServesPart (old : List (List ℕ)) (left : ℕ) (mode : Mode) (new : List (List ℕ)) : Type 0 where
  pub traffic : IsTraffic old
  pub size : length new ≡ length old
  pub square : (up : ℕ) → up < length old → length (row_of new up) ≡ length old
  pub permutation : IsPermutation (length old) mode.perm
  pub lasts : 0 < mode.duration
  pub fits : mode.duration ≤ left
  pub lines : (line : Critical) → IsLine new line → line_sum new line + mode.duration ≤ left
  pub carried : (up down : ℕ) → up < length old → down < length old → entry old up down ≤ entry new up down + slots_in up down mode
  pub smaller : (up down : ℕ) → up < length old → down < length old → entry new up down ≤ entry old up down
  pub fuller : (line : Critical) → IsLine old line → line_sum old line ≤ line_sum new line + mode.duration
  pub ends : (mode.duration ≡ left) ⊎ (EndsEntry old new ⊎ FillsLine old left mode.duration new)

-- permutations with positive durations, which fill so many slots and give each connection all that it asks for
pub record ServesMatrix (rows : List (List ℕ)) (modes : List Mode) (slots : ℕ) : Type 0 where
  pub permutations : All (λ mode. IsPermutation (length rows) mode.perm) modes
  pub durations : All (λ mode. 0 < mode.duration) modes
  pub filled : total_duration modes ≡ slots
  pub carried : (up down : ℕ) → up < length rows → down < length rows → entry rows up down ≤ slots_of modes up down
