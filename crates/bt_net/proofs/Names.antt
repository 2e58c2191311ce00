-- Names that a set or a map of texts keeps, as the lists of bytes that contracts see.
use Rattle.std.proofs.Common.{◌≡◌, ℕ, ◌+◌, Bool, true, false, cond, not, ◌||◌, List, [], ◌∷◌, ◌++◌, length, map, position, Option, Some, None, is_some, option_map, slice_get, get_or, take, ◌<◌, ◌≢◌, AllPairs, Contains, IsTrue, subst, ◌≤◌, String, Global, string_bytes, refl, sym, ap, ◌∙◌, true≢false, inl, inr, arith}
use Rattle.std.specs.List.{list_any, prefix_len, position_or_len}
use Rattle.std.specs.Str.{bytes_eq}
use Rattle.std.specs.Map.{keys_of, lookup}
use Rattle.std.proofs.lemmas.List.{length-map, length-take, get_or-take, map_push, take-map, take_more}
use Rattle.std.proofs.lemmas.Bool.{and_parts, ltb-false, cases_eq, cases_lt}
use Rattle.std.proofs.lemmas.Cmp.{nat_list_eq_equiv}
use Rattle.std.proofs.lemmas.List.Sums.{fails_before_first}
use Rattle.std.proofs.lemmas.List.Quantifiers.{position-Some}
use Rattle.std.proofs.lemmas.Map.Views.{Contains-from_any}
use Rattle.std.proofs.lemmas.Option.{slice_get-map, slice_get-get_or, slice_get_within, get_or_from_slice_get}
use Rattle.std.proofs.lemmas.Slice.Eq.{bytes_eq-Decides}
use Rattle.std.specs.String.{string_eq}
use Rattle.indexmap.specs.IndexMap.{IndexMap, get, insert_entry}
use Rattle.indexmap.specs.IndexSet.{insert_key}
use Rattle.indexmap.proofs.CallerLemmas.{insert_entry-new}
use Rattle.bt_frame.specs.declared.numbers.BeamNo.{BeamNo}
use Rattle.bt_frame.proofs.OneNumber.{numbered}
use Rattle.bt_net.specs.Name.{is_name, is_reserved, is_terminal_name}
use Rattle.bt_net.specs.Network.{names_of, AreNames, AreTerminals}

module _ {A B : Type 0} (test : B → Bool) (view : A → B) where
  -- a test of the views is the test of what is seen
  pub list_any-map : (xs : List A) → list_any (λ x. test (view x)) xs ≡ list_any test (map view xs)
  list_any-map [] = refl
  list_any-map (x ∷ xs) = ap (λ rest. test (view x) || rest) (list_any-map xs)

  prefix_len-map : (xs : List A) → prefix_len (λ x. not (test (view x))) xs ≡ prefix_len (λ y. not (test y)) (map view xs)
  prefix_len-map [] = refl
  prefix_len-map (x ∷ xs) = ap (λ rest. cond (not (test (view x))) (1 + rest) 0) (prefix_len-map xs)

  pub position-map : (xs : List A) → position (λ x. test (view x)) xs ≡ position test (map view xs)
  position-map xs = rw (prefix_len-map xs, length-map xs view) refl

abbrev pub Text : Type 0
Text = String Global

-- no key has these bytes
absent : (keys : List Text) (key : Text) (name : List ℕ) → string_bytes key ≡ name → list_any (bytes_eq name) (map string_bytes keys) ≡ false → list_any (string_eq key) keys ≡ false
absent keys key name is none = list_any-map (bytes_eq (string_bytes key)) string_bytes keys ∙ ap (λ bytes. list_any (bytes_eq bytes) (map string_bytes keys)) is ∙ none

-- a new name goes last
pub map-insert_key : (keys : List Text) (key : Text) (name : List ℕ) → string_bytes key ≡ name → list_any (bytes_eq name) (map string_bytes keys) ≡ false
    → map string_bytes (insert_key string_eq keys key) ≡ map string_bytes keys ++ name ∷ []
map-insert_key keys key name is none = rw (absent keys key name is none) (map_push string_bytes keys key ∙ ap (λ bytes. map string_bytes keys ++ bytes ∷ []) is)

-- an entry of the map, as contracts see it
abbrev pub Entry : Type 0
Entry = Text × BeamNo

abbrev pub seen : Entry → List ℕ × BeamNo
seen entry = (string_bytes entry.0, entry.1)

pub names_of-seen : (entries : List Entry) → names_of (map seen entries) ≡ map string_bytes (keys_of entries)
names_of-seen [] = refl
names_of-seen (entry ∷ entries) = ap (λ rest. string_bytes entry.0 ∷ rest) (names_of-seen entries)

-- a look-up finds something where a key passes
pub is_some-lookup : (test : Text → Bool) (entries : List Entry) → is_some (lookup test entries) ≡ list_any test (keys_of entries)
is_some-lookup test [] = refl
is_some-lookup test (entry ∷ entries) =
    elim (test entry.0) as (λ b. is_some (cond b (Some entry.1) (lookup test entries)) ≡ b || list_any test (keys_of entries)) [
      | true ↦ refl
      | false ↦ is_some-lookup test entries
    ]

not_some : {X : Type 0} (found : Option X) → is_some found ≡ false → found ≡ None
not_some None none = refl
not_some (Some x) none = absurd (true≢false none)

-- a new name goes last, with its beam
pub map-insert_entry : {S : Type 0} (m : IndexMap Text BeamNo S) (key : Text) (beam : BeamNo) (name : List ℕ) → string_bytes key ≡ name
    → list_any (bytes_eq name) (names_of (map seen m.entries)) ≡ false → map seen (insert_entry string_eq m.entries key beam) ≡ map seen m.entries ++ (name, beam) ∷ []
map-insert_entry m key beam name is none =
    let keys_none = absent (keys_of m.entries) key name is (ap (list_any (bytes_eq name)) (sym (names_of-seen m.entries)) ∙ none) in
    let found_none : get string_eq m key ≡ None = not_some _ (is_some-lookup (string_eq key) m.entries ∙ keys_none) in
    ap (map seen) (insert_entry-new string_eq m key beam found_none) ∙ map_push seen m.entries (key, beam) ∙ ap (λ (bytes : List ℕ). map seen m.entries ++ (bytes, beam) ∷ []) is

none_fails : {X : Type 0} (b : Bool) (x : X) → cond b (Some x) None ≡ None → b ≡ false
none_fails true x is = absurd cc
none_fails false x is = refl

-- where no place is found, no terminal has the name
pub not_found : (terminals : List (List ℕ × BeamNo)) (name : List ℕ) → position (bytes_eq name) (names_of terminals) ≡ None → Contains (names_of terminals) name → ⊥
not_found terminals name none has =
    let names = names_of terminals in
    let past : length names ≤ position_or_len (bytes_eq name) names = ltb-false _ _ (none_fails _ _ none) in
    let differs : bytes_eq name (get_or names has.0 name) ≡ false = fails_before_first (bytes_eq name) names has.0 name (omega (arith, has.1)) in
    true≢false (sym (nat_list_eq_equiv.refl name) ∙ sym (ap (bytes_eq name) has.2) ∙ differs)

-- the place that is found has the name
pub found_name : (terminals : List (List ℕ × BeamNo)) (name : List ℕ) (number : ℕ) → position (bytes_eq name) (names_of terminals) ≡ Some number → option_map (λ terminal. terminal.0) (slice_get terminals number) ≡ Some name
found_name terminals name number is =
    let names = names_of terminals in
    let found = position-Some (bytes_eq name) names number name is in
    sym (slice_get-map (λ terminal. terminal.0) terminals number) ∙ slice_get-get_or names number name found.0 ∙ ap Some (sym ((bytes_eq-Decides name (get_or names number name)).0 found.1))

-- a word that is no good name is the name of no terminal
pub no_place : (is_good : List ℕ → Bool) (names : List (List ℕ)) (word : List ℕ) → AreNames is_good names → (IsTrue (is_good word) → ⊥) → position (bytes_eq word) names ≡ None
no_place is_good names word are bad = by (position (bytes_eq word) names) refl
  where
    by : (o : Option ℕ) → position (bytes_eq word) names ≡ o → o ≡ None
    by None at = refl
    by (Some i) at =
        let found = position-Some (bytes_eq word) names i word at in
        let same : get_or names i word ≡ word = sym ((bytes_eq-Decides word (get_or names i word)).0 found.1) in
        absurd (bad (subst (λ (n : List ℕ). IsTrue (is_good n)) same (are.good i word found.0)))

no_name : (word : List ℕ) → is_name word ≡ false → IsTrue (is_terminal_name word) → ⊥
no_name word bad good = true≢false (sym (and_parts (is_name word) (not (is_reserved word)) good).0 ∙ bad)

-- a word that has not the shape of a name names no terminal
pub names_none : (beams : List (List ℕ)) (terminals : List (List ℕ × BeamNo)) (word : List ℕ) → AreTerminals beams terminals → is_name word ≡ false
    → None ≡ option_map numbered (position (bytes_eq word) (names_of terminals))
names_none beams terminals word are bad = ap (option_map numbered) (sym (no_place is_terminal_name (names_of terminals) word are.names (no_name word bad)))

named_at : (terminals : List (List ℕ × BeamNo)) (number : ℕ) (name : List ℕ) (beam : BeamNo) → slice_get terminals number ≡ Some (name, beam) → slice_get (names_of terminals) number ≡ Some name
named_at terminals number name beam at = slice_get-map (λ terminal. terminal.0) terminals number ∙ ap (option_map (λ terminal. terminal.0)) at

-- a terminal's name is a good one
pub good_name : (is_good : List ℕ → Bool) (terminals : List (List ℕ × BeamNo)) (number : ℕ) (name : List ℕ) (beam : BeamNo) → AreNames is_good (names_of terminals)
    → slice_get terminals number ≡ Some (name, beam) → IsTrue (is_good name)
good_name is_good terminals number name beam are at =
    let names = names_of terminals in
    let named : slice_get names number ≡ Some name = named_at terminals number name beam at in
    subst (λ (n : List ℕ). IsTrue (is_good n)) (get_or_from_slice_get names number name name named) (are.good number name (slice_get_within names number name named))

-- where names differ, none of those before a place is the one there
pub absent_before : (names : List (List ℕ)) (number : ℕ) (name : List ℕ) → AllPairs (λ a b. a ≢ b) names → slice_get names number ≡ Some name → list_any (bytes_eq name) (take number names) ≡ false
absent_before names number name differ at = by (list_any (bytes_eq name) (take number names)) refl
  where
    by : (b : Bool) → list_any (bytes_eq name) (take number names) ≡ b → b ≡ false
    by false is = refl
    by true is =
        let has = Contains-from_any (λ a b. (bytes_eq-Decides a b).0) name (take number names) is in
        let before : has.0 < number = omega (arith, has.1, length-take number names) in
        let early : get_or names has.0 name ≡ name = sym (get_or-take number names has.0 name before) ∙ has.2 in
        let late : get_or names number name ≡ name = get_or_from_slice_get names number name name at in
        absurd (differ has.0 number name before (slice_get_within names number name at) (early ∙ sym late))

pub absent_terminal : (terminals : List (List ℕ × BeamNo)) (number : ℕ) (name : List ℕ) (beam : BeamNo) → AllPairs (λ a b. a ≢ b) (names_of terminals) → slice_get terminals number ≡ Some (name, beam)
    → list_any (bytes_eq name) (names_of (take number terminals)) ≡ false
absent_terminal terminals number name beam differ at =
    ap (list_any (bytes_eq name)) (sym (take-map (λ terminal. terminal.0) number terminals)) ∙ absent_before (names_of terminals) number name differ (named_at terminals number name beam at)

-- one item more
pub take_next : {X : Type 0} (xs : List X) (number : ℕ) (x : X) → slice_get xs number ≡ Some x → take number xs ++ x ∷ [] ≡ take (number + 1) xs
take_next xs number x at = sym (take_more xs number x (slice_get_within xs number x at) ∙ ap (λ y. take number xs ++ y ∷ []) (get_or_from_slice_get xs number x x at))

-- where names differ, a terminal's name has its place
pub place_of_name : (terminals : List (List ℕ × BeamNo)) (number : ℕ) (name : List ℕ) → AllPairs (λ a b. a ≢ b) (names_of terminals)
    → option_map (λ terminal. terminal.0) (slice_get terminals number) ≡ Some name → position (bytes_eq name) (names_of terminals) ≡ Some number
place_of_name terminals number name differ at = by (position (bytes_eq name) (names_of terminals)) refl
  where
    named : slice_get (names_of terminals) number ≡ Some name
    named = slice_get-map (λ terminal. terminal.0) terminals number ∙ at

    here : get_or (names_of terminals) number name ≡ name
    here = get_or_from_slice_get (names_of terminals) number name name named

    within : number < length (names_of terminals)
    within = slice_get_within (names_of terminals) number name named

    by : (o : Option ℕ) → position (bytes_eq name) (names_of terminals) ≡ o → o ≡ Some number
    by None is = absurd (not_found terminals name is (number, within, here))
    by (Some other) is =
        let found = position-Some (bytes_eq name) (names_of terminals) other name is in
        let same : get_or (names_of terminals) other name ≡ name = sym ((bytes_eq-Decides name (get_or (names_of terminals) other name)).0 found.1) in
        elim (cases_eq other number) [
          | inl one ↦ ap Some one
          | inr apart ↦ elim (cases_lt other number) [
            | inl before ↦ absurd (differ other number name before within (same ∙ sym here))
            | inr behind ↦ absurd (differ number other name (omega (arith, apart)) found.0 (here ∙ sym same))
          ]
        ]
