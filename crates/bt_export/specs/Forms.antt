-- Lines that have the places of a form, and forms whose words can be told apart from the names of their open places.
use Rattle.std.specs.Prelude.{◌≡◌, ℕ, nat_lt, ◌==◌, ◌&&◌, Bool, true, not, IsTrue, List, [], ◌∷◌, codes, length}
use Rattle.std.specs.List.{list_all}
use Rattle.bt_text.specs.Text.{lacks}
use Rattle.bt_words.specs.Forms as part
use Rattle.bt_words.specs.Forms.{Part, open_places}
use Rattle.bt_words.specs.Names.{are_apart}
use Rattle.bt_export.specs.Object.{form_words}

-- there is a word for each place, and the fixed ones are those of their places
abbrev pub Fits : List Part → List (List ℕ) → Type 0
Fits [] [] = Unit {0}
Fits [] (_ ∷ _) = ⊥
Fits (_ ∷ _) [] = ⊥
Fits (part.Text text ∷ places) (word ∷ words) = (word ≡ text) × Fits places words
Fits (_ ∷ places) (word ∷ words) = Fits places words

-- the word does not begin with a colon
abbrev pub is_plain_word : List ℕ → Bool
is_plain_word [] = true
is_plain_word (first ∷ rest) = not (first == 58)

-- no fixed word does
abbrev pub are_plain : List Part → Bool
are_plain [] = true
are_plain (part.Text text ∷ places) = is_plain_word text && are_plain places
are_plain (_ ∷ places) = are_plain places

-- and no word of the form has a space
abbrev pub is_plain : List Part → List (List ℕ) → Bool
is_plain places names = are_plain places && list_all (lacks 32) (form_words places names)

-- A form: it has a place, each open one has a name of its own, none of them is `form`, and its words are plain.
pub record IsForm (places : List Part) (names : List (List ℕ)) : Type 0 where
  pub some : IsTrue (nat_lt 0 (length (form_words places names)))
  pub count : length names ≡ open_places places
  pub apart : IsTrue (are_apart (codes "form" ∷ names))
  pub plain : IsTrue (is_plain places names)
