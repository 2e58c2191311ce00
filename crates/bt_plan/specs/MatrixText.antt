-- The text of a traffic matrix: its size in a line, then that many lines of that many entries.
use Rattle.std.specs.Prelude.{ℕ, zero, suc, ◌+◌, ◌==◌, ◌&&◌, if◌then◌else◌, nat_le, length, List, [], ◌∷◌, Option, Some, None, Ok, Err}
use Rattle.std.specs.List.{list_all}
use Rattle.bt_frame.specs.declared.limits.TheConstants.{MOST_BEAMS, MOST_UNITS}
use Rattle.bt_text.specs.Text.{words, lines, numbers_of}
use Rattle.bt_plan.specs.declared.text_fault.TextCode.TheVariants.{X1, X2}
use Rattle.bt_text.specs.Reading.{◌>>=◌}
use Rattle.bt_plan.specs.Reading.{Reading}

-- the size, as many beams as a network may have, that the numbers of the first line say
abbrev pub size_in : Option (List ℕ) → Reading ℕ
size_in (Some (size ∷ [])) = if nat_le 1 size && nat_le size MOST_BEAMS then Ok size else Err (X2, 1)
size_in _ = Err (X1, 1)

-- the row that the numbers of a line say: as many entries as the size, each at most the units of a link
abbrev pub row_in : ℕ → ℕ → Option (List ℕ) → Reading (List ℕ)
row_in size at None = Err (X1, at)
row_in size at (Some row) = if length row == size then (if list_all (λ units. nat_le units MOST_UNITS) row then Ok row else Err (X2, at)) else Err (X1, at)

-- so many rows, the first of them in line `at`, and nothing behind the last one's newline
abbrev pub rows_in : ℕ → ℕ → ℕ → List (List ℕ) → Reading (List (List ℕ))
rows_in size zero at ([] ∷ []) = Ok []
rows_in size zero at _ = Err (X1, at)
rows_in size (suc more) at (line ∷ next ∷ rest) = row_in size at (numbers_of (words line)) >>= λ row. rows_in size more (at + 1) (next ∷ rest) >>= λ rows. Ok (row ∷ rows)
rows_in size (suc more) at _ = Err (X1, at)

-- the matrix that these lines spell, the last of which has no newline behind it
abbrev pub matrix_in : List (List ℕ) → Reading (List (List ℕ))
matrix_in (first ∷ next ∷ rest) = size_in (numbers_of (words first)) >>= λ size. rows_in size size 2 (next ∷ rest)
matrix_in _ = Err (X1, 1)

-- the rows of the matrix that a text spells
abbrev pub matrix_reading : List ℕ → Reading (List (List ℕ))
matrix_reading text = matrix_in (lines text)
