-- What a reader that goes through the words of a line has in front of it.
use Rattle.std.specs.Prelude.{ℕ, Bool, false, ◌&&◌, if◌then◌else◌, nat_le, List, [], ◌∷◌, Option, Some, None, option_and_then}
use Rattle.std.specs.List.{list_all}
use Rattle.std.specs.Char.{is_ascii_digit}
use Rattle.std.specs.Str.Parse.{digits_value_after}
use Rattle.bt_text.specs.Text.{words, is_word, number_of}

-- the words that are left of a line: none once its last word was taken
abbrev pub words_left : Option (List ℕ) → List (List ℕ)
words_left None = []
words_left (Some rest) = words rest

-- the word in front
abbrev pub first_word : List (List ℕ) → Option (List ℕ)
first_word [] = None
first_word (word ∷ rest) = Some word

-- the word in front is this one
abbrev pub is_first : List ℕ → List (List ℕ) → Bool
is_first name [] = false
is_first name (word ∷ rest) = is_word name word

-- what the digits of a word write behind those of `n`, at most `most`; an empty word is no more digits
abbrev pub digits_after : ℕ → ℕ → List ℕ → Option ℕ
digits_after most n word = if list_all is_ascii_digit word && nat_le (digits_value_after 10 n word) most then Some (digits_value_after 10 n word) else None

-- a number of at most `most`
abbrev pub number_to : ℕ → List ℕ → Option ℕ
number_to most word = option_and_then (λ n. if nat_le n most then Some n else None) (number_of word)
