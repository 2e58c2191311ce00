-- Lines as objects of JSON, a line each.
use Rattle.std.specs.Prelude.{◌≡◌, ℕ, ◌+◌, ◌&&◌, if◌then◌else◌, not, codes, Bool, true, false, is_some, List, [], ◌∷◌, ◌++◌, Option, Some, None, IfSome, option_map, Ok}
use Rattle.serde_json.specs.Data.{Data}
use Rattle.serde_json.specs.Written.{compact_text}
use Rattle.bt_text.specs.Reading.{◌>>=◌, LineReading, or_fault}
use Rattle.bt_text.specs.Text.{is_word, number_of_digits, words}
use Rattle.bt_net.specs.Name.{is_name}
use Rattle.bt_words.specs.declared.form.Form.{Form}
use Rattle.bt_words.specs.Forms as part
use Rattle.bt_words.specs.Forms.{Part, forms_from, parts_of}
use Rattle.bt_words.specs.Moments.{is_moment}
use Rattle.bt_words.specs.Names.{names_of}
use Rattle.bt_words.specs.Tags.{is_tag}
use Rattle.bt_export.specs.Object.{form_object, text_object}
use Rattle.bt_export.specs.Said.{said_by}
use Rattle.bt_export.specs.Table.{rows_of}
use Rattle.bt_export.specs.TextForms.{text_forms, text_names, text_parts}
use Rattle.bt_export.specs.declared.text_form.TextForm.{TextForm}
use Rattle.bt_export.specs.declared.json.JsonCode.{JsonCode}
use Rattle.bt_export.specs.declared.json.JsonCode.TheVariants.{O1}

-- the word says what is done with a message that is for its receiver
abbrev pub is_answer : List ℕ → Bool
is_answer word = is_name word && not (is_word (codes "notforme") word)

-- the word has the shape of what stands at this place; which names there are is for a network to say
abbrev pub is_at : Part → List ℕ → Bool
is_at (part.Text text) word = is_word text word
is_at part.Number word = is_some (number_of_digits 19 word)
is_at part.Count word = is_some (number_of_digits 19 word)
is_at part.Desk word = is_some (number_of_digits 19 word)
is_at part.Frame word = true
is_at part.Beam word = is_name word
is_at part.Terminal word = is_name word
is_at part.Taken word = is_answer word
is_at part.Heard word = is_answer word
is_at part.Tag word = is_tag word
is_at part.Moment word = is_moment word

-- there is a word for each place, and it has the shape of what stands there
abbrev pub are_at : List Part → List (List ℕ) → Bool
are_at [] [] = true
are_at [] (_ ∷ _) = false
are_at (_ ∷ _) [] = false
are_at (place ∷ places) (word ∷ words) = is_at place word && are_at places words

-- the first of these forms that the words have
abbrev pub first_of : List Form → List (List ℕ) → Option Form
first_of [] ws = None
first_of (form ∷ forms) ws = if are_at (parts_of form) ws then Some form else first_of forms ws

-- the form of the words, where they have one
abbrev pub form_of : List (List ℕ) → Option Form
form_of [] = None
form_of (head ∷ rest) = first_of (forms_from head) (head ∷ rest)

-- the first of these forms of a traffic or a plan that the words have
abbrev pub first_text : List TextForm → List (List ℕ) → Option TextForm
first_text [] ws = None
first_text (form ∷ forms) ws = if are_at (text_parts form) ws then Some form else first_text forms ws

-- the object of a line that no run prints: by its form, or its text where it has none
abbrev pub object_of_text : Option TextForm → List ℕ → Option Data
object_of_text (Some form) line = form_object (text_parts form) (text_names form) line
object_of_text None line = text_object line

-- the object of a line by its form
abbrev pub object_by : Option Form → List ℕ → Option Data
object_by (Some form) line = form_object (parts_of form) (names_of form) line
object_by None line = object_of_text (first_text text_forms (words line)) line

abbrev pub line_object : List ℕ → Option Data
line_object line = object_by (form_of (words line)) line

-- the JSON of a line, where that is a text in UTF-8
abbrev pub json_line : List ℕ → Option (List ℕ)
json_line line = option_map compact_text (line_object line)

-- the JSON of lines, a newline behind each, or the number of the first that is no text
abbrev pub json_from : ℕ → List (List ℕ) → LineReading JsonCode (List ℕ)
json_from at [] = Ok []
json_from at (line ∷ rest) = or_fault (O1, at) (json_line line) >>= λ one. json_from (at + 1) rest >>= λ more. Ok ((one ++ 10 ∷ []) ++ more)

-- the JSON of the lines of a text
abbrev pub json_of : List ℕ → LineReading JsonCode (List ℕ)
json_of text = json_from 1 (rows_of text)

-- what is written for a line says that line
abbrev pub SaysBack : List ℕ → Type 0
SaysBack line = IfSome (json_line line) (λ text. said_by text ≡ Some line)

-- and so for each of these
abbrev pub AllSayBack : List (List ℕ) → Type 0
AllSayBack [] = Unit {0}
AllSayBack (line ∷ rest) = SaysBack line × AllSayBack rest
