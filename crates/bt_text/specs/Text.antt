-- Numbers, words and lines of a text. A text is a list of bytes.
use Rattle.std.specs.Prelude.{ℕ, nat_le, length, ◌-◌, ◌^◌, ◌==◌, ◌&&◌, min, not, Bool, false, if◌then◌else◌, List, [], ◌∷◌, ◌++◌, Option, Some, None, option_and_then}
use Rattle.std.specs.List.{slice_split, list_all, flat_map, join_with_byte}
use Rattle.std.specs.Str.{bytes_eq}
use Rattle.std.specs.Char.{is_ascii_digit}
use Rattle.std.specs.Int.{is_in_range}
use Rattle.std.specs.Str.Parse.{digits_value}

-- the words of a line: what stands between its spaces, so that two spaces have an empty word between them
abbrev pub words : List ℕ → List (List ℕ)
words line = slice_split (λ b. b == 32) line

-- the lines of a text: what stands between its newlines; the last of them has no newline behind it
abbrev pub lines : List ℕ → List (List ℕ)
lines text = slice_split (λ b. b == 10) text

-- the word is this one
abbrev pub is_word : List ℕ → List ℕ → Bool
is_word name word = bytes_eq word name

-- decimal digits, one at least, without a sign; the first is a 0 only where it stands alone
abbrev pub is_number : List ℕ → Bool
is_number [] = false
is_number (digit ∷ []) = is_ascii_digit digit
is_number (first ∷ second ∷ rest) = is_in_range 49 57 first && list_all is_ascii_digit (second ∷ rest)

-- the number that a word is, however large
abbrev pub number_of : List ℕ → Option ℕ
number_of word = if is_number word then Some (digits_value 10 word) else None

-- the number that a word of at most so many digits is
abbrev pub number_of_digits : ℕ → List ℕ → Option ℕ
number_of_digits most_digits word = if nat_le (length word) most_digits then number_of word else None

-- the numbers that the words are, where each of them is one
abbrev pub numbers_of : List (List ℕ) → Option (List ℕ)
numbers_of [] = Some []
numbers_of (word ∷ rest) = option_and_then (λ n. option_and_then (λ ns. Some (n ∷ ns)) (numbers_of rest)) (number_of word)

-- a number as a u64 holds it: the last u64 stands for every number from there on
abbrev pub capped : ℕ → ℕ
capped n = min n (2 ^ 64 - 1)

-- the words with one space between each two
abbrev pub spaced : List (List ℕ) → List ℕ
spaced ws = join_with_byte 32 ws

-- the lines, each with its newline behind it
abbrev pub ended : List (List ℕ) → List ℕ
ended ls = flat_map (λ line. line ++ 10 ∷ []) ls

-- the byte stands nowhere in these bytes
abbrev pub lacks : ℕ → List ℕ → Bool
lacks byte bytes = list_all (λ b. not (b == byte)) bytes
