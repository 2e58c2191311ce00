-- A moment, as a word of a line.
use Rattle.std.specs.Prelude.{ℕ, ◌==◌, ◌&&◌, Bool, false, List, [], ◌∷◌}
use Rattle.std.specs.Char.{is_ascii_digit}

-- bytes of which each is a digit
abbrev pub are_two : ℕ → ℕ → Bool
are_two tens ones = is_ascii_digit tens && is_ascii_digit ones

-- a date of the calendar, 2026-12-01; only where digits stand is looked at
abbrev pub is_date : List ℕ → Bool
is_date (y1 ∷ y2 ∷ y3 ∷ y4 ∷ h1 ∷ m1 ∷ m2 ∷ h2 ∷ d1 ∷ d2 ∷ []) = are_two y1 y2 && are_two y3 y4 && h1 == 45 && are_two m1 m2 && h2 == 45 && are_two d1 d2
is_date _ = false

-- a time of the day by the clock of longitude 0, to the second, 05:44:37Z
abbrev pub is_time : List ℕ → Bool
is_time (h1 ∷ h2 ∷ c1 ∷ m1 ∷ m2 ∷ c2 ∷ s1 ∷ s2 ∷ z ∷ []) = are_two h1 h2 && c1 == 58 && are_two m1 m2 && c2 == 58 && are_two s1 s2 && z == 90
is_time _ = false

-- both, with a `T` between them
abbrev pub is_moment : List ℕ → Bool
is_moment (y1 ∷ y2 ∷ y3 ∷ y4 ∷ h1 ∷ m1 ∷ m2 ∷ h2 ∷ d1 ∷ d2 ∷ t ∷ time) = is_date (y1 ∷ y2 ∷ y3 ∷ y4 ∷ h1 ∷ m1 ∷ m2 ∷ h2 ∷ d1 ∷ d2 ∷ []) && t == 84 && is_time time
is_moment _ = false
