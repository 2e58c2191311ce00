-- Printed lines as their words.
use Rattle.std.specs.Prelude.{ℕ, ◌++◌, List, [], ◌∷◌, decimal, flat_map}
use Rattle.bt_frame.specs.declared.numbers.Mark.{Mark}
use Rattle.bt_words.specs.declared.line.Word.{Word}
use Rattle.bt_words.specs.declared.line.Word.TheVariants as word

-- the words with a space before each of them
abbrev pub spaced_out : List (List ℕ) → List ℕ
spaced_out words = flat_map (λ word. 32 ∷ word) words

-- the words of a line with a space between each two, and a newline behind the last
abbrev pub line_of : List (List ℕ) → List ℕ
line_of [] = 10 ∷ []
line_of (first ∷ rest) = first ++ spaced_out rest ++ 10 ∷ []

-- the frame of that number, from 0, of a superframe
abbrev pub frame_name : Mark → ℕ → List ℕ
frame_name mark number = decimal mark.0 ++ 46 ∷ decimal number

-- what a word of the code spells
abbrev pub word_bytes : Word → List ℕ
word_bytes (word.Text text) = text.now
word_bytes (word.Tag tag) = tag.now
word_bytes (word.Moment moment) = moment.now
word_bytes (word.Number number) = decimal number
word_bytes (word.Frame mark number) = frame_name mark number
