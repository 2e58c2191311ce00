-- The rows without a column.
use Rattle.std.proofs.Common.{◌≡◌, ℕ, if◌then◌else◌, List, length, Option, None, sym}
use Rattle.bt_frame.proofs.Totals.{total, count_by-total}
use Rattle.bt_modes.specs.Matching.{column_of, is_free, free_rows}

-- 1 for a row that has no column
abbrev pub one_free : Option ℕ → ℕ
one_free column = if is_free column then 1 else 0

-- how many of the first rows have no column
abbrev pub free_to : List (Option ℕ) → ℕ → ℕ
free_to columns count = total count (λ row. one_free (column_of columns row))

-- all of them
pub free_to-all : (columns : List (Option ℕ)) → free_to columns (length columns) ≡ free_rows columns
free_to-all columns = sym (count_by-total is_free columns None)
