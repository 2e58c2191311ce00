-- The numbers of a line that has so many of them.
use Rattle.std.specs.Prelude.{ℕ, ◌==◌, ◌&&◌, if◌then◌else◌, nat_le, Bool, List, length, Option, Some, None, option_and_then}
use Rattle.std.specs.List.{list_all}
use Rattle.bt_text.specs.Text.{is_number, numbers_of}

-- these numbers, where there are so many, each at most `most`
abbrev pub so_many : ℕ → ℕ → List ℕ → Option (List ℕ)
so_many most size ns = if length ns == size && list_all (λ n. nat_le n most) ns then Some ns else None

-- what words are as so many numbers, each at most `most`
abbrev pub numbers_to : ℕ → ℕ → List (List ℕ) → Option (List ℕ)
numbers_to most size ws = option_and_then (so_many most size) (numbers_of ws)

-- the words are so many numbers, however large
abbrev pub are_numbers : ℕ → List (List ℕ) → Bool
are_numbers size ws = length ws == size && list_all is_number ws
