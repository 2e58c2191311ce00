-- A matrix raised within a length and bordered, so that every line has that length.
use Rattle.std.specs.Prelude.{◌≡◌, ℕ, zero, suc, ◌+◌, ◌-◌, ◌*◌, ◌<◌, ◌≤◌, min, max, ltb, if◌then◌else◌, List, length, map, take, slice_index}
use Rattle.std.specs.List.{range_with_len}
use Rattle.bt_frame.specs.declared.limits.TheConstants.{MOST_SUM}
use Rattle.bt_matrix.specs.Traffic.{entry, row_sum, column_sum}
use Rattle.bt_frame.specs.declared.mode.Mode.{Mode}
use Rattle.bt_trans.specs.declared.part.PartMode.{PartMode}
use Rattle.bt_modes.specs.Matching.{HasLineSums}
use Rattle.bt_modes.specs.Padding.{HasLinesWithin}
use Rattle.bt_trans.specs.declared.border.Cuts.{Cuts}
use Rattle.bt_trans.specs.declared.border.TheConstants.{MOST_WANTED}
use Rattle.bt_trans.specs.declared.part.TheConstants.{SILENT}

-- The old part of a bordered matrix has no smaller entries, the corner of the new lines is empty, and every line has the sum.
pub record IsBordered (old new : List (List ℕ)) (k sum : ℕ) : Type 0 where
  pub size : length new + k ≡ length old + length old
  pub raised : (up down : ℕ) → up < length old → down < length old → entry old up down ≤ entry new up down
  pub corner : (up down : ℕ) → length old ≤ up → length old ≤ down → entry new up down ≡ 0
  pub equal : HasLineSums new sum

-- Each line wants some slots more. All that the rows want lies on a line one behind the other, and so does all that the
-- columns want: a row gives to a column what their pieces have in common. The border's lines want the last of it.

-- the sum of a function over the numbers below a bound: where the piece of a line begins
abbrev pub cut : (ℕ → ℕ) → ℕ → ℕ
cut wants zero = 0
cut wants (suc n) = cut wants n + wants n

-- what two pieces have in common
abbrev pub overlap : ℕ → ℕ → ℕ → ℕ → ℕ
overlap from to begin end = min to end - max from begin

-- where the piece of a line begins within the first `inner` slots; the border's lines have the length each behind them
abbrev pub bordered_cut : ℕ → ℕ → ℕ → (ℕ → ℕ) → ℕ → ℕ
bordered_cut size inner sum wants line = min (cut wants (min line size)) inner + (line - size) * sum

-- what a row wants, and what a column wants
abbrev pub row_wants : List (List ℕ) → ℕ → ℕ → ℕ
row_wants rows sum up = sum - row_sum rows up

abbrev pub column_wants : List (List ℕ) → ℕ → ℕ → ℕ
column_wants rows sum down = sum - column_sum rows down

-- the entries of a bordered matrix: of the old rows, of the new rows under old columns, and of the corner
pub record AreCells (size border inner sum : ℕ) (rows_want columns_want : ℕ → ℕ) (own cell : ℕ → ℕ → ℕ) : Type 0 where
  pub upper : (i j : ℕ) → i < size → j < size + border → cell i j ≡ own i j
      + overlap (cut rows_want i) (cut rows_want (i + 1)) (bordered_cut size inner sum columns_want j) (bordered_cut size inner sum columns_want (j + 1))
  pub lower : (i j : ℕ) → size ≤ i → i < size + border → j < size → cell i j ≡
      overlap (cut columns_want j) (cut columns_want (j + 1)) (bordered_cut size inner sum rows_want i) (bordered_cut size inner sum rows_want (i + 1))
  pub corner : (i j : ℕ) → size ≤ i → i < size + border → size ≤ j → j < size + border → cell i j ≡ 0

-- such an entry
abbrev pub cell_at : ℕ → ℕ → ℕ → (ℕ → ℕ) → (ℕ → ℕ) → (ℕ → ℕ → ℕ) → ℕ → ℕ → ℕ
cell_at size inner sum rows_want columns_want own up down =
    if ltb up size then own up down + overlap (cut rows_want up) (cut rows_want (up + 1)) (bordered_cut size inner sum columns_want down) (bordered_cut size inner sum columns_want (down + 1))
    else (if ltb down size then overlap (cut columns_want down) (cut columns_want (down + 1)) (bordered_cut size inner sum rows_want up) (bordered_cut size inner sum rows_want (up + 1))
    else 0)

-- an entry of the bordered matrix of a matrix, whose lines have that sum
abbrev pub cell_of : List (List ℕ) → ℕ → ℕ → ℕ → ℕ → ℕ
cell_of rows inner sum up down = cell_at (length rows) inner sum (row_wants rows sum) (column_wants rows sum) (entry rows) up down

-- all of its entries, with so many lines
abbrev pub bordered_rows : List (List ℕ) → ℕ → ℕ → ℕ → List (List ℕ)
bordered_rows rows inner sum lines = map (λ up. map (cell_of rows inner sum up) (range_with_len 0 lines)) (range_with_len 0 lines)

-- these are where the pieces of a matrix begin whose lines want slots up to the sum
pub record HasCuts (rows : List (List ℕ)) (cuts : Cuts) : Type 0 where
  pub of_rows : (up : ℕ) → up ≤ length rows → slice_index cuts.rows up ≡ cut (row_wants rows cuts.sum) up
  pub of_columns : (down : ℕ) → down ≤ length rows → slice_index cuts.columns down ≡ cut (column_wants rows cuts.sum) down
  pub within : HasLinesWithin rows cuts.sum
  pub limit : cuts.sum ≤ MOST_SUM
  pub inner : cuts.inner ≤ MOST_WANTED

-- a downlink of the old part, else silence
abbrev pub clip_to : ℕ → ℕ → ℕ
clip_to size down = if ltb down size then down else SILENT

-- the part of a mode that lies in the old part
abbrev pub clip : ℕ → Mode → PartMode
clip size mode = record { duration = mode.duration; perm = map (clip_to size) (take size mode.perm) }
