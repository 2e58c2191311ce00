-- The forms of a first word exclude each other: what is spelled by one is read by none that is tried before it.
use Rattle.std.proofs.Common.{◌≡◌, ℕ, ◌+◌, ◌&&◌, ◌||◌, Bool, true, false, cond, not, is_some, Option, Some, None, List, [], ◌∷◌, ◌++◌, get_or, take, drop, position, option_map, refl, sym, ap, ◌∙◌, true≢false}
use Rattle.std.specs.List.{list_all, position_or_len}
use Rattle.std.specs.Str.{bytes_eq}
use Rattle.std.proofs.lemmas.Bool.{and_parts, false_from_ne_true, not-true}
use Rattle.std.proofs.lemmas.List.Quantifiers.{position-Some}
use Rattle.std.proofs.lemmas.Slice.Eq.{bytes_eq-Decides}
use Rattle.bt_frame.specs.declared.numbers.TermNo.{TermNo}
use Rattle.bt_net.specs.Name.{is_name, is_reserved}
use Rattle.bt_text.specs.Text.{is_word, is_number, lacks}
use Rattle.bt_net.specs.Network.{Net, IsSound, names_of}
use Rattle.bt_net.specs.Terminals.{IsTerminal, name_at, terminal_of}
use Rattle.bt_plan.proofs.NamedTerminals.{terminal_found}
use Rattle.bt_words.specs.declared.form.Form.{Form}
use Rattle.bt_words.specs.declared.form.Form.TheVariants as form
use Rattle.bt_run_lines.specs.declared.printed.Value.{Value}
use Rattle.bt_run_lines.specs.declared.printed.Value.TheVariants as value
use Rattle.bt_words.specs.Forms as part
use Rattle.bt_words.specs.Forms.{Part, parts_of, is_of_a_run, forms_from}
use Rattle.bt_run_lines.specs.Words.{taken_of, heard_of, said_by}
use Rattle.bt_run_lines.specs.Lines.{followed, values_in}
use Rattle.bt_run_lines.specs.Spelled.{word_of, words_of, SuitsPlace, SuitPlaces}

-- the word may not stand at this place
abbrev pub never : Part → List ℕ → Bool
never part.Number word = not (is_number word)
never part.Terminal word = is_reserved word
never part.Taken word = not (is_some (taken_of word))
never part.Heard word = not (is_some (heard_of word))
never (part.Text text) word = not (is_word text word)
never _ word = false

-- a fixed word that no terminal has as its name
abbrev pub is_no_name : Part → Bool
is_no_name (part.Text text) = is_reserved text
is_no_name _ = false

-- what stands at the second place may not stand at the first
abbrev pub are_apart : Part → Part → Bool
are_apart tried (part.Text text) = never tried text
are_apart tried part.Terminal = is_no_name tried
are_apart tried _ = false

-- the places tried, and those of a line: there are more of one, or two of them are apart
abbrev pub clash : List Part → List Part → Bool
clash [] [] = false
clash [] (_ ∷ _) = true
clash (_ ∷ _) [] = true
clash (tried ∷ more) (place ∷ places) = are_apart tried place || clash more places

-- a name is none of the words that mean something else
reserved_nowhere : (net : Net) (word : List ℕ) (o : Option ℕ) → IsSound net → is_reserved word ≡ true → position (bytes_eq word) (names_of net.terminals) ≡ o → o ≡ None
reserved_nowhere net word None sound is at = refl
reserved_nowhere net word (Some i) sound is at =
    let names = names_of net.terminals in
    let place = position-Some (bytes_eq word) names i [] at in
    let same : word ≡ get_or names i [] = (bytes_eq-Decides word (get_or names i [])).0 place.1 in
    let good = sound.terminals.names.good i [] place.0 in
    let free : is_reserved (get_or names i []) ≡ false = not-true _ (and_parts (is_name (get_or names i [])) (not (is_reserved (get_or names i []))) good).1 in
    absurd (true≢false (sym is ∙ ap is_reserved same ∙ free))

terminal_nowhere : (net : Net) (word : List ℕ) → IsSound net → is_reserved word ≡ true → terminal_of net word ≡ None
terminal_nowhere net word sound is = rw (reserved_nowhere net word (position (bytes_eq word) (names_of net.terminals)) sound is refl) refl

none_of : {X : Type 0} (o : Option X) → not (is_some o) ≡ true → o ≡ None
none_of None is = refl
none_of (Some x) is = absurd cc

-- the word says nothing there
word_refused : (net : Net) → IsSound net → (tried : Part) (word : List ℕ) → never tried word ≡ true → said_by net tried word ≡ None
word_refused net sound part.Number word is = rw (not-true (is_number word) is) refl
word_refused net sound part.Terminal word is = ap (λ o. option_map (λ one. one ∷ []) (option_map (λ terminal. value.Terminal terminal) o)) (terminal_nowhere net word sound is)
word_refused net sound part.Taken word is = ap (λ o. option_map (λ one. one ∷ []) (option_map (λ answer. value.Taken answer) o)) (none_of (taken_of word) is)
word_refused net sound part.Heard word is = ap (λ o. option_map (λ one. one ∷ []) (option_map (λ answer. value.Heard answer) o)) (none_of (heard_of word) is)
word_refused net sound (part.Text text) word is = ap (λ b. cond b (Some []) None) (not-true (is_word text word) is)
word_refused net sound tried word is = absurd cc

is_some_of : (net : Net) (word : List ℕ) (terminal : TermNo) → terminal_of net word ≡ None → terminal_of net word ≡ Some terminal → ⊥
is_some_of net word terminal none some = let clashes : None ≡ Some terminal = sym none ∙ some in absurd cc

name_refused : (net : Net) → IsSound net → (tried : Part) (terminal : TermNo) → IsTerminal net terminal → is_no_name tried ≡ true → said_by net tried (name_at net terminal) ≡ None
name_refused net sound (part.Text text) terminal within is =
    let name = name_at net terminal in
    let other : is_word text name ≡ false = false_from_ne_true _ (λ same. is_some_of net name terminal
    (terminal_nowhere net name sound (ap is_reserved ((bytes_eq-Decides name text).0 same) ∙ is)) (terminal_found net terminal sound within)) in
    ap (λ b. cond b (Some []) None) other
name_refused net sound tried terminal within is = absurd cc

value_refused : (net : Net) → IsSound net → (tried place : Part) (one : Value) → SuitsPlace net place one → are_apart tried place ≡ true → said_by net tried (word_of net one) ≡ None
value_refused net sound tried (part.Text text) one suits is = absurd suits
value_refused net sound tried part.Terminal (value.Terminal terminal) suits is = name_refused net sound tried terminal suits is
value_refused net sound tried part.Terminal one suits is = absurd suits
value_refused net sound tried place one suits is = absurd cc

either_none : (a b : Option (List Value)) (x y : Bool) → (x ≡ true → a ≡ None) → (y ≡ true → b ≡ None) → (x || y) ≡ true → followed a b ≡ None
either_none None b x y first second is = refl
either_none (Some here) None x y first second is = refl
either_none (Some here) (Some more) true y first second is = let none = first refl in absurd cc
either_none (Some here) (Some more) false y first second is = let none = second is in absurd cc

-- the words of a line are not those of places that clash with its own
pub clash_refused : (net : Net) → IsSound net → (tried places : List Part) (values : List Value) → SuitPlaces net places values → clash tried places ≡ true → values_in net tried (words_of net places values) ≡ None
clash_refused net sound [] [] values suits is = absurd cc
clash_refused net sound [] (part.Text text ∷ places) values suits is = refl
clash_refused net sound [] (place ∷ places) [] suits is = absurd suits
clash_refused net sound [] (place ∷ places) (one ∷ values) suits is = refl
clash_refused net sound (first ∷ more) [] values suits is = refl
clash_refused net sound (first ∷ more) (part.Text text ∷ places) values suits is =
    either_none (said_by net first text) (values_in net more (words_of net places values)) (never first text) (clash more places)
    (word_refused net sound first text) (clash_refused net sound more places values suits) is
clash_refused net sound (first ∷ more) (place ∷ places) [] suits is = absurd suits
clash_refused net sound (first ∷ more) (place ∷ places) (one ∷ values) suits is =
    either_none (said_by net first (word_of net one)) (values_in net more (words_of net places values)) (are_apart first place) (clash more places)
    (value_refused net sound first place one suits.0) (clash_refused net sound more places values suits.1) is

-- the first fixed word of places
abbrev pub head_of : List Part → List ℕ
head_of (part.Text text ∷ places) = text
head_of _ = []

-- no fixed word of these places has a space
abbrev pub texts_lack : List Part → Bool
texts_lack [] = true
texts_lack (part.Text text ∷ places) = lacks 32 text && texts_lack places
texts_lack (_ ∷ places) = texts_lack places

-- the forms of the first word of a form
abbrev pub forms_of : Form → List Form
forms_of one = forms_from (head_of (parts_of one))

-- the place of the first of them that does not clash with the form
abbrev pub place_of : Form → ℕ
place_of one = position_or_len (λ other. not (clash (parts_of other) (parts_of one))) (forms_of one)

-- the form begins with a fixed word, no fixed word of it has a space, and of the forms of its first word it is the first that
-- does not clash with it
pub record IsReached (one : Form) : Type 0 where
  pub begins : parts_of one ≡ part.Text (head_of (parts_of one)) ∷ drop 1 (parts_of one)
  pub spaceless : texts_lack (parts_of one) ≡ true
  pub stands : forms_of one ≡ take (place_of one) (forms_of one) ++ one ∷ drop (place_of one + 1) (forms_of one)
  pub differs : list_all (λ other. clash (parts_of other) (parts_of one)) (take (place_of one) (forms_of one)) ≡ true

-- each by computation: one form is named, and those that no run prints, so that the last clause is one for each of the others
pub reached : (one : Form) → is_of_a_run one ≡ true → IsReached one
reached form.SentLoad of_a_run = record { begins = refl; spaceless = refl; stands = refl; differs = refl }
reached form.PlanDone of_a_run = absurd cc
reached form.PlanSameTerminal of_a_run = absurd cc
reached form.PlanNotThere of_a_run = absurd cc
reached form.PlanRowFull of_a_run = absurd cc
reached form.PlanColumnFull of_a_run = absurd cc
reached form.PlanNotNewer of_a_run = absurd cc
reached form.PlanNoSuchEdition of_a_run = absurd cc
reached form.PlanNotGood of_a_run = absurd cc
reached one of_a_run = record { begins = refl; spaceless = refl; stands = refl; differs = refl }
