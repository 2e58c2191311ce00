-- A traffic matrix as a list of rows, one for each uplink beam, with an entry for each downlink beam: what the
-- one asks for to the other, in slots per frame.
use Rattle.std.specs.Prelude.{◌≡◌, ℕ, ◌<◌, ◌≤◌, List, [], length, All, sum, sum_by, slice_index, slice_set}
use Rattle.std.specs.List.{slice_index_or}
use Rattle.bt_frame.specs.declared.schedule.Critical.{Critical}
use Rattle.bt_frame.specs.declared.schedule.Critical.TheVariants.{Row, Column}
use Rattle.bt_frame.specs.Critical.{IsOfBeams}
use Rattle.bt_frame.specs.declared.limits.TheConstants.{MOST_BEAMS, MOST_SUM}

-- a row of the matrix
abbrev pub row_of : List (List ℕ) → ℕ → List ℕ
row_of rows up = slice_index_or rows up []

-- the slots from an uplink beam to a downlink beam
abbrev pub entry : List (List ℕ) → ℕ → ℕ → ℕ
entry rows up down = slice_index (row_of rows up) down

-- the slots from an uplink beam
abbrev pub row_sum : List (List ℕ) → ℕ → ℕ
row_sum rows up = sum (row_of rows up)

-- the slots to a downlink beam
abbrev pub column_sum : List (List ℕ) → ℕ → ℕ
column_sum rows down = sum_by (λ row. slice_index row down) rows

-- the slots of a line
abbrev pub line_sum : List (List ℕ) → Critical → ℕ
line_sum rows (Row up) = row_sum rows up.0
line_sum rows (Column down) = column_sum rows down.0

-- the line's beam is one of the matrix
abbrev pub IsLine : List (List ℕ) → Critical → Type 0
IsLine rows line = IsOfBeams (length rows) line

-- rows come before columns, and among these the lower number first
abbrev pub IsBefore : Critical → Critical → Type 0
IsBefore (Row i) (Row j) = i.0 < j.0
IsBefore (Row _) (Column _) = Unit {0}
IsBefore (Column _) (Row _) = ⊥
IsBefore (Column i) (Column j) = i.0 < j.0

-- a square matrix of at least one beam and at most as many as a network may have, whose line sums are within the limit
pub record IsTraffic (rows : List (List ℕ)) : Type 0 where
  pub some_beams : 1 ≤ length rows
  pub few_beams : length rows ≤ MOST_BEAMS
  pub square : All (λ row. length row ≡ length rows) rows
  pub row_sums : (up : ℕ) → up < length rows → row_sum rows up ≤ MOST_SUM
  pub column_sums : (down : ℕ) → down < length rows → column_sum rows down ≤ MOST_SUM

-- the first line that has the greatest line sum, and that sum
pub record IsHeaviest (rows : List (List ℕ)) (line : Critical) (most : ℕ) : Type 0 where
  pub on_matrix : IsLine rows line
  pub reached : line_sum rows line ≡ most
  pub greatest : (other : Critical) → IsLine rows other → line_sum rows other ≤ most
  pub first : (other : Critical) → IsLine rows other → IsBefore other line → line_sum rows other < most

-- the matrix with another number at one place
abbrev pub with_entry : List (List ℕ) → ℕ → ℕ → ℕ → List (List ℕ)
with_entry rows up down units = slice_set rows up (slice_set (row_of rows up) down units)
