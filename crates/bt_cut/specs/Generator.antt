-- The generator: a number of 64 bits. A draw puts the next one in its place, and gives the upper bits of that.
use Rattle.std.specs.Prelude.{ℕ, ◌+◌, ◌*◌, ◌/◌, ◌%◌, ◌^◌}

-- the number after one more draw: a linear congruence with the constants of Knuth's MMIX
unfoldable pub next : ℕ → ℕ
next state = (state * 6364136223846793005 + 1442695040888963407) % 2 ^ 64

-- what a draw gives that put this number in its place
unfoldable pub drawn : ℕ → ℕ
drawn state = state / 2 ^ 33
