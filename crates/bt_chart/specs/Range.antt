-- The word FIRST-LAST: superframes by their numbers.
use Rattle.std.specs.Prelude.{ℕ, ◌+◌, ◌-◌, ◌^◌, ◌==◌, nat_le, if◌then◌else◌, List, take, drop, position, Option, Some, None, option_and_then}
use Rattle.bt_text.specs.WordReader.{number_to}
use Rattle.bt_run_chart.specs.declared.view.Superframes.{Superframes}

-- the number of a superframe that a word is
abbrev pub superframe_in : List ℕ → Option ℕ
superframe_in word = number_to (2 ^ 32 - 1) word

-- these superframes, both included, where the first is at most the last
abbrev pub superframes_of : Option ℕ → Option ℕ → Option Superframes
superframes_of (Some first) (Some last) = if nat_le first last then Some (record { first = first; last = last }) else None
superframes_of _ _ = None

-- the superframes that a word names, on both sides of its first hyphen
abbrev pub superframes_in : List ℕ → Option Superframes
superframes_in word = option_and_then (λ hyphen. superframes_of (superframe_in (take hyphen word)) (superframe_in (drop (hyphen + 1) word))) (position (λ byte. byte == 45) word)
