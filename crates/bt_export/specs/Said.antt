-- The line that an object of JSON says: the words of its form, where in the place of each name stands the value of that name.
use Rattle.std.specs.Prelude.{ℕ, ◌==◌, if◌then◌else◌, List, [], ◌∷◌, codes, decimal, Option, Some, None, option_map, option_and_then}
use Rattle.serde_json.specs.Data.{Data, array, boolean, float, negative, null, number, object, string, unsigned}
use Rattle.serde_json.specs.Find.{as_str, get}
use Rattle.serde_json.specs.Read.{read}
use Rattle.bt_text.specs.Text.{spaced, words}

-- the word of a value
abbrev pub word_of : Data → Option (List ℕ)
word_of (number (unsigned n)) = Some (decimal n)
word_of (number (negative _)) = None
word_of (number (float _)) = None
word_of (string text) = Some text
word_of null = None
word_of (boolean _) = None
word_of (array _) = None
word_of (object _) = None

-- the word that an object has for a word of its form: that of the value of this name, behind a colon, and else the word itself
abbrev pub word_for : Data → List ℕ → Option (List ℕ)
word_for value [] = Some []
word_for value (first ∷ rest) = if first == 58 then option_and_then word_of (get rest value) else Some (first ∷ rest)

-- the words that it has for these
abbrev pub words_for : Data → List (List ℕ) → Option (List (List ℕ))
words_for value [] = Some []
words_for value (word ∷ words) = option_and_then (λ one. option_map (λ more. one ∷ more) (words_for value words)) (word_for value word)

-- the line of a form, and where there is none the text itself
abbrev pub form_or_text : Data → Option (List ℕ) → Option (List ℕ)
form_or_text value (Some form) = option_map spaced (words_for value (words form))
form_or_text value None = option_and_then as_str (get (codes "text") value)

-- the line that an object says
abbrev pub line_of_object : Data → Option (List ℕ)
line_of_object value = form_or_text value (option_and_then as_str (get (codes "form") value))

-- the line that a line of JSON says
abbrev pub said_by : List ℕ → Option (List ℕ)
said_by text = option_and_then line_of_object (read text)
