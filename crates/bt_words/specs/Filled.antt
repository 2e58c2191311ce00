-- The line of a form, with words at its places.
use Rattle.std.specs.Prelude.{ℕ, List, [], ◌∷◌, ◌++◌}
use Rattle.bt_text.specs.Text.{spaced}
use Rattle.bt_words.specs.Lines.{line_of}
use Rattle.bt_words.specs.declared.form.Form.{Form}
use Rattle.bt_words.specs.Forms as part
use Rattle.bt_words.specs.Forms.{Part, parts_of}

-- the words of these places, with the given words at those that have no fixed one, in order
abbrev pub filled : List Part → List (List ℕ) → List (List ℕ)
filled [] words = []
filled (part.Text text ∷ places) words = text ∷ filled places words
filled (place ∷ places) [] = []
filled (place ∷ places) (first ∷ words) = first ∷ filled places words

-- the line of this form, with these words at the places that have no fixed one, in order
abbrev pub form_line : Form → List (List ℕ) → List ℕ
form_line form words = line_of (filled (parts_of form) words)

-- the front of a line that others go on with: the words of this form in the same way, and a space
abbrev pub form_front : Form → List (List ℕ) → List ℕ
form_front form words = spaced (filled (parts_of form) words) ++ 32 ∷ []
