-- The places of a form one after the other, with the names and the words that are left for them.
use Rattle.std.proofs.Common.{◌≡◌, ◌≢◌, ℕ, Bool, true, false, ◌+◌, ◌<◌, ◌≤◌, List, [], ◌∷◌, ◌++◌, length, map, get_or, drop, Option, Some, None, option_and_then, refl, sym, ap, ◌∙◌, add-one, drop-cons, rules, String, Global, string_bytes}
use Rattle.std.specs.Borrow.{Bor}
use Rattle.std.proofs.lemmas.List.{append-nil}
use Rattle.std.proofs.Math.ListN.{drop_of_length-le}
use Rattle.serde_json.specs.Data.{Members, string}
use Rattle.serde_json.specs.View.{view}
use Rattle.serde_json.specs.declared.value.Value.TheVariants as json
use Rattle.serde_json.specs.declared.value.Value.{the_lemmas}
use Rattle.bt_text.specs.WordReader.{first_word}
use Rattle.bt_words.specs.declared.token.Token.{Token}
use Rattle.bt_words.specs.declared.token.Token.TheVariants as token
use Rattle.bt_words.specs.Filled.{filled}
use Rattle.bt_words.specs.Forms.{Part, part_of}
use Rattle.bt_words.proofs.Places.{left_of, places_at, places_at-cons}
use Rattle.bt_export.specs.Object.{marked, open_words, with_field, with_fields}

-- what a text is as data
pub view-String : (text : String Global) → view (json.String text) ≡ string (string_bytes text)
view-String text = search (rules, the_lemmas)

-- the texts of references
abbrev pub texts : List (Bor (List ℕ)) → List (List ℕ)
texts names = map (λ name. name.now) names

pub texts-cons : (names : List (Bor (List ℕ))) (used : ℕ) (name : Bor (List ℕ)) → used < length names → get_or names used name ≡ name → texts (drop used names) ≡ name.now ∷ texts (drop (used + 1) names)
texts-cons names used name within is =
    let cut : drop used names ≡ name ∷ drop (used + 1) names = rw add-one (drop-cons names used name within) ∙ ap (λ n. n ∷ drop (used + 1) names) is in
    ap texts cut

-- ---- the words of a form

-- those from one place on, where so many names were used in front
abbrev pub names_left : List Token → ℕ → List (Bor (List ℕ)) → ℕ → List (List ℕ)
names_left tokens at names used = filled (places_at tokens at) (map marked (texts (drop used names)))

open_place : (place : Token) (places : List Part) (word : List ℕ) (rest : List (List ℕ)) → ((text : Bor (List ℕ)) → place ≢ token.Text text) → filled (part_of place ∷ places) (word ∷ rest) ≡ word ∷ filled places rest
open_place (token.Text text) places word rest other = absurd (other text refl)
open_place place places word rest other = refl

unnamed : (place : Token) (places : List Part) → ((text : Bor (List ℕ)) → place ≢ token.Text text) → filled (part_of place ∷ places) [] ≡ []
unnamed (token.Text text) places other = absurd (other text refl)
unnamed place places other = refl

pub next_fixed : (tokens : List Token) (at : ℕ) (names : List (Bor (List ℕ))) (used : ℕ) (text : Bor (List ℕ)) → at < length tokens → get_or tokens at token.Number ≡ token.Text text
    → names_left tokens at names used ≡ text.now ∷ names_left tokens (at + 1) names used
next_fixed tokens at names used text within is =
    let given = map marked (texts (drop used names)) in
    ap (λ (places : List Part). filled places given) (places_at-cons tokens at within) ∙ ap (λ (t : Token). filled (part_of t ∷ places_at tokens (at + 1)) given) is

pub next_open : (tokens : List Token) (at : ℕ) (names : List (Bor (List ℕ))) (used : ℕ) (name : Bor (List ℕ)) → at < length tokens → ((text : Bor (List ℕ)) → get_or tokens at token.Number ≢ token.Text text)
    → used < length names → get_or names used name ≡ name → names_left tokens at names used ≡ marked name.now ∷ names_left tokens (at + 1) names (used + 1)
next_open tokens at names used name within other has is =
    ap (λ (places : List Part). filled places (map marked (texts (drop used names)))) (places_at-cons tokens at within)
    ∙ ap (λ (ns : List (List ℕ)). filled (part_of (get_or tokens at token.Number) ∷ places_at tokens (at + 1)) (map marked ns)) (texts-cons names used name has is)
    ∙ open_place (get_or tokens at token.Number) (places_at tokens (at + 1)) (marked name.now) (map marked (texts (drop (used + 1) names))) other

left_of-nil : (is_further : Bool) → left_of is_further [] ≡ []
left_of-nil true = refl
left_of-nil false = refl

-- nothing is left
done : (is_further : Bool) (text whole : List ℕ) (left : List (List ℕ)) → left ≡ [] → text ++ left_of is_further left ≡ whole → text ≡ whole
done is_further text whole left none so_far =
    sym (append-nil text) ∙ ap (λ (t : List ℕ). text ++ t) (sym (left_of-nil is_further)) ∙ ap (λ (ws : List (List ℕ)). text ++ left_of is_further ws) (sym none) ∙ so_far

-- behind the last place
pub no_place : (tokens : List Token) (at : ℕ) → length tokens ≤ at → places_at tokens at ≡ []
no_place tokens at past = ap (map part_of) (drop_of_length-le tokens past)

pub past_places : (is_further : Bool) (text whole : List ℕ) (tokens : List Token) (at : ℕ) (names : List (Bor (List ℕ))) (used : ℕ) → length tokens ≤ at → text ++ left_of is_further (names_left tokens at names used) ≡ whole → text ≡ whole
past_places is_further text whole tokens at names used past so_far =
    done is_further text whole (names_left tokens at names used) (ap (λ (places : List Part). filled places (map marked (texts (drop used names)))) (no_place tokens at past)) so_far

-- behind the last name
pub past_names : (is_further : Bool) (text whole : List ℕ) (tokens : List Token) (at : ℕ) (names : List (Bor (List ℕ))) (used : ℕ) → at < length tokens
    → ((text : Bor (List ℕ)) → get_or tokens at token.Number ≢ token.Text text) → length names ≤ used → text ++ left_of is_further (names_left tokens at names used) ≡ whole → text ≡ whole
past_names is_further text whole tokens at names used within other past so_far =
    let none : names_left tokens at names used ≡ [] =
    ap (λ (places : List Part). filled places (map marked (texts (drop used names)))) (places_at-cons tokens at within)
    ∙ ap (λ (ns : List (Bor (List ℕ))). filled (part_of (get_or tokens at token.Number) ∷ places_at tokens (at + 1)) (map marked (texts ns))) (drop_of_length-le names past)
    ∙ unnamed (get_or tokens at token.Number) (places_at tokens (at + 1)) other in
    done is_further text whole (names_left tokens at names used) none so_far

-- ---- the members of an object

-- the members with what is left of a line, where so many names were used in front
abbrev pub members_left : List Token → ℕ → List (Bor (List ℕ)) → ℕ → List (List ℕ) → Members → Option Members
members_left tokens at names used words members = with_fields (texts (drop used names)) (open_words (places_at tokens at) words) members

no_words : (names : List (List ℕ)) (members : Members) → with_fields names [] members ≡ Some members
no_words [] members = refl
no_words (name ∷ names) members = refl

no_names : (words : List (List ℕ)) (members : Members) → with_fields [] words members ≡ Some members
no_names [] members = refl
no_names (word ∷ words) members = refl

none_open : (places : List Part) → open_words places [] ≡ []
none_open [] = refl
none_open (place ∷ places) = refl

pub first_none : (words : List (List ℕ)) → None ≡ first_word words → words ≡ []
first_none [] is = refl
first_none (word ∷ words) is = absurd cc

pub first_some : (words : List (List ℕ)) (word : List ℕ) → Some word ≡ first_word words → words ≡ word ∷ drop 1 words
first_some [] word is = absurd cc
first_some (first ∷ words) word is = let same : word ≡ first = cc in ap (λ w. w ∷ words) (sym same)

pub past_line : (tokens : List Token) (at : ℕ) (names : List (Bor (List ℕ))) (used : ℕ) (words : List (List ℕ)) (members : Members) → words ≡ [] → members_left tokens at names used words members ≡ Some members
past_line tokens at names used words members none =
    ap (λ ws. with_fields (texts (drop used names)) (open_words (places_at tokens at) ws) members) none
    ∙ ap (λ ws. with_fields (texts (drop used names)) ws members) (none_open (places_at tokens at)) ∙ no_words (texts (drop used names)) members

pub past_all : (tokens : List Token) (at : ℕ) (names : List (Bor (List ℕ))) (used : ℕ) (words : List (List ℕ)) (members : Members) → length tokens ≤ at → members_left tokens at names used words members ≡ Some members
past_all tokens at names used words members past =
    ap (λ places. with_fields (texts (drop used names)) (open_words places words) members) (no_place tokens at past) ∙ no_words (texts (drop used names)) members

pub past_named : (tokens : List Token) (at : ℕ) (names : List (Bor (List ℕ))) (used : ℕ) (words : List (List ℕ)) (members : Members) → length names ≤ used → members_left tokens at names used words members ≡ Some members
past_named tokens at names used words members past =
    ap (λ (ns : List (Bor (List ℕ))). with_fields (texts ns) (open_words (places_at tokens at) words) members) (drop_of_length-le names past) ∙ no_names (open_words (places_at tokens at) words) members

-- over a fixed word
pub over_fixed : (tokens : List Token) (at : ℕ) (names : List (Bor (List ℕ))) (used : ℕ) (words : List (List ℕ)) (word : List ℕ) (text : Bor (List ℕ)) (members : Members) → at < length tokens
    → get_or tokens at token.Number ≡ token.Text text → words ≡ word ∷ drop 1 words → members_left tokens at names used words members ≡ members_left tokens (at + 1) names used (drop 1 words) members
over_fixed tokens at names used words word text members within is first =
    let ns = texts (drop used names) in
    ap (λ places. with_fields ns (open_words places words) members) (places_at-cons tokens at within)
    ∙ ap (λ (t : Token). with_fields ns (open_words (part_of t ∷ places_at tokens (at + 1)) words) members) is
    ∙ ap (λ ws. with_fields ns (open_words (part_of (token.Text text) ∷ places_at tokens (at + 1)) ws) members) first

open_front : (place : Token) (places : List Part) (word : List ℕ) (rest : List (List ℕ)) → ((text : Bor (List ℕ)) → place ≢ token.Text text) → open_words (part_of place ∷ places) (word ∷ rest) ≡ word ∷ open_words places rest
open_front (token.Text text) places word rest other = absurd (other text refl)
open_front token.Number places word rest other = refl
open_front token.Count places word rest other = refl
open_front token.Desk places word rest other = refl
open_front token.Frame places word rest other = refl
open_front token.Beam places word rest other = refl
open_front token.Terminal places word rest other = refl
open_front token.Taken places word rest other = refl
open_front token.Heard places word rest other = refl
open_front token.Tag places word rest other = refl
open_front token.Moment places word rest other = refl

-- at an open place
pub at_open : (tokens : List Token) (at : ℕ) (names : List (Bor (List ℕ))) (used : ℕ) (words : List (List ℕ)) (word : List ℕ) (name : Bor (List ℕ)) (members : Members) → at < length tokens
    → ((text : Bor (List ℕ)) → get_or tokens at token.Number ≢ token.Text text) → used < length names → get_or names used name ≡ name → words ≡ word ∷ drop 1 words
    → members_left tokens at names used words members
    ≡ option_and_then (with_fields (texts (drop (used + 1) names)) (open_words (places_at tokens (at + 1)) (drop 1 words))) (with_field name.now word members)
at_open tokens at names used words word name members within other has is first =
    let place = get_or tokens at token.Number in
    let places = places_at tokens (at + 1) in
    ap (λ ps. with_fields (texts (drop used names)) (open_words ps words) members) (places_at-cons tokens at within)
    ∙ ap (λ ws. with_fields (texts (drop used names)) (open_words (part_of place ∷ places) ws) members) first
    ∙ ap (λ ws. with_fields (texts (drop used names)) ws members) (open_front place places word (drop 1 words) other)
    ∙ ap (λ ns. with_fields ns (word ∷ open_words places (drop 1 words)) members) (texts-cons names used name has is)
