-- A matrix kept in whole, with the sum of each line beside it.
use Rattle.std.specs.Prelude.{◌≡◌, ℕ, ◌<◌, ◌≤◌, List, length, slice_index}
use Rattle.bt_matrix.specs.Traffic.{row_sum, column_sum, IsTraffic}

-- the rows are a traffic matrix, and the sums kept beside them are those of its lines
pub record KeepsSums (rows : List (List ℕ)) (row_sums column_sums : List ℕ) : Type 0 where
  pub traffic : IsTraffic rows
  pub of_rows : (up : ℕ) → up < length rows → slice_index row_sums up ≡ row_sum rows up
  pub of_columns : (down : ℕ) → down < length rows → slice_index column_sums down ≡ column_sum rows down

-- these are the sums of all rows of a matrix, and of all its columns
pub record AreLineSums (rows : List (List ℕ)) (row_sums column_sums : List ℕ) : Type 0 where
  pub each_row : length row_sums ≡ length rows
  pub each_column : length column_sums ≡ length rows
  pub of_rows : (up : ℕ) → up < length rows → slice_index row_sums up ≡ row_sum rows up
  pub of_columns : (down : ℕ) → down < length rows → slice_index column_sums down ≡ column_sum rows down

-- the greatest of these numbers, and the first place that has it
pub record IsFirstGreatest (numbers : List ℕ) (place most : ℕ) : Type 0 where
  pub within : place < length numbers
  pub reached : slice_index numbers place ≡ most
  pub greatest : (k : ℕ) → k < length numbers → slice_index numbers k ≤ most
  pub first : (k : ℕ) → k < place → slice_index numbers k < most
