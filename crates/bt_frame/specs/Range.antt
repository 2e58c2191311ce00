-- Ranges of numbers.
use Rattle.std.specs.Prelude.{ℕ, ◌≤◌}

-- the number lies from `least` to `most`
abbrev pub IsWithin : ℕ → ℕ → ℕ → Type 0
IsWithin least most number = (least ≤ number) × (number ≤ most)
