-- Numbers in their ranges.
use Rattle.std.specs.Prelude.{ℕ, ◌&&◌, if◌then◌else◌, nat_le, Option, Some, None}

-- a number of at most `most`
abbrev pub up_to : ℕ → ℕ → Option ℕ
up_to most number = if nat_le number most then Some number else None

-- a number from 1 to `most`
abbrev pub within : ℕ → ℕ → Option ℕ
within most number = if nat_le 1 number && nat_le number most then Some number else None
