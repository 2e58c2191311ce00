-- A line as an object of JSON: its form, and under the name of each open place of that form the word that stands there.
use Rattle.std.specs.Prelude.{ℕ, if◌then◌else◌, List, [], ◌∷◌, ◌++◌, map, codes, Option, Some, None, option_map, option_and_then}
use Rattle.std.specs.Str.{is_utf8}
use Rattle.serde_json.specs.Data.{Data, Members, member, no_members, number, object, put, string, unsigned}
use Rattle.bt_text.specs.Text.{number_of_digits, spaced, words}
use Rattle.bt_words.specs.Forms.{Part, is_fixed}
use Rattle.bt_words.specs.Filled.{filled}

-- a text, where the bytes are one
abbrev pub text_value : List ℕ → Option Data
text_value bytes = if is_utf8 bytes then Some (string bytes) else None

-- the number, where there is one, and else the text
abbrev pub number_or_text : List ℕ → Option ℕ → Option Data
number_or_text word (Some n) = Some (number (unsigned n))
number_or_text word None = text_value word

-- the value of a word: a number, where it is one of at most 19 digits, and else a text
abbrev pub value_of : List ℕ → Option Data
value_of word = number_or_text word (number_of_digits 19 word)

-- the name of an open place, as the form has it: a colon, which begins no fixed word, and the name
abbrev pub marked : List ℕ → List ℕ
marked name = codes ":" ++ name

-- the words of a form: the fixed ones, and the marked names of the open places
abbrev pub form_words : List Part → List (List ℕ) → List (List ℕ)
form_words places names = filled places (map marked names)

-- the words that stand at the open places, in order
abbrev pub open_words : List Part → List (List ℕ) → List (List ℕ)
open_words (place ∷ places) (word ∷ words) = if is_fixed place then open_words places words else word ∷ open_words places words
open_words _ _ = []

-- the members, with the value of a word under a name
abbrev pub with_field : List ℕ → List ℕ → Members → Option Members
with_field name word members = option_map (λ value. put name value members) (value_of word)

-- the members, with the value of each word under its name
abbrev pub with_fields : List (List ℕ) → List (List ℕ) → Members → Option Members
with_fields (name ∷ names) (word ∷ words) members = option_and_then (with_fields names words) (with_field name word members)
with_fields _ _ members = Some members

-- the form alone
abbrev pub form_member : List Part → List (List ℕ) → Members
form_member places names = member (codes "form") (string (spaced (form_words places names))) no_members

-- the object of a line of a form
abbrev pub form_object : List Part → List (List ℕ) → List ℕ → Option Data
form_object places names line = option_map object (with_fields names (open_words places (words line)) (form_member places names))

-- the object of a line of no form: its text
abbrev pub text_object : List ℕ → Option Data
text_object line = option_map (λ text. object (member (codes "text") text no_members)) (text_value line)
