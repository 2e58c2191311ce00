-- The places of a form one after the other, as a loop goes over them.
use Rattle.std.proofs.Common.{◌≡◌, ◌≢◌, ℕ, Bool, true, false, if◌then◌else◌, ◌+◌, ◌<◌, List, [], ◌∷◌, ◌++◌, length, map, get_or, drop, Result, Ok, Err, OnOk, refl, sym, ap, ◌∙◌, append_assoc, add-one, drop-cons}
use Rattle.std.specs.Bool.{OnTrue}
use Rattle.std.specs.Borrow.{Bor}
use Rattle.bt_text.specs.Text.{spaced}
use Rattle.bt_text.specs.Short.{one_word}
use Rattle.bt_text.proofs.TextLines.{spaced-cons}
use Rattle.bt_words.specs.Lines.{line_of, spaced_out, word_bytes}
use Rattle.bt_words.specs.declared.line.Word.{Word}
use Rattle.bt_words.specs.declared.token.Token.{Token}
use Rattle.bt_words.specs.declared.token.Token.TheVariants as token
use Rattle.bt_words.specs.Filled.{filled}
use Rattle.bt_words.specs.Forms.{Part, part_of}

-- the places from one on
abbrev pub places_at : List Token → ℕ → List Part
places_at tokens at = map part_of (drop at tokens)

pub places_at-cons : (tokens : List Token) (at : ℕ) → at < length tokens → places_at tokens at ≡ part_of (get_or tokens at token.Number) ∷ places_at tokens (at + 1)
places_at-cons tokens at within =
    let cut : drop at tokens ≡ get_or tokens at token.Number ∷ drop (at + 1) tokens = rw add-one (drop-cons tokens at token.Number within) in
    ap (map part_of) cut

-- a line of words is they with single spaces between, and a newline
pub line_of-spaced : (words : List (List ℕ)) → line_of words ≡ spaced words ++ 10 ∷ []
line_of-spaced [] = refl
line_of-spaced (first ∷ rest) = sym (ap (λ (l : List ℕ). l ++ 10 ∷ []) (spaced-cons first rest))

-- the words at the places from one on, where so many words were used in front
abbrev pub left_at : List Token → ℕ → List Word → ℕ → List (List ℕ)
left_at tokens at words used = filled (places_at tokens at) (map word_bytes (drop used words))

-- the word at a first place, which is fixed, and at one that is not
pub fixed_first : (tokens behind : List Token) (place : Token) (text : Bor (List ℕ)) (words : List (List ℕ)) → tokens ≡ place ∷ behind → place ≡ token.Text text
    → filled (map part_of tokens) words ≡ text.now ∷ filled (map part_of behind) words
fixed_first tokens behind place text words first is =
    ap (λ (ts : List Token). filled (map part_of ts) words) first ∙ ap (λ (t : Token). filled (part_of t ∷ map part_of behind) words) is

open_place : (place : Token) (places : List Part) (word : List ℕ) (rest : List (List ℕ)) → ((text : Bor (List ℕ)) → place ≢ token.Text text) → filled (part_of place ∷ places) (word ∷ rest) ≡ word ∷ filled places rest
open_place (token.Text text) places word rest other = absurd (other text refl)
open_place place places word rest other = refl

pub open_first : (tokens behind : List Token) (place : Token) (words rest : List Word) (word : Word) → tokens ≡ place ∷ behind → words ≡ word ∷ rest → ((text : Bor (List ℕ)) → place ≢ token.Text text)
    → filled (map part_of tokens) (map word_bytes words) ≡ word_bytes word ∷ filled (map part_of behind) (map word_bytes rest)
open_first tokens behind place words rest word first has other =
    ap (λ (ts : List Token). filled (map part_of ts) (map word_bytes words)) first
    ∙ ap (λ (ws : List Word). filled (part_of place ∷ map part_of behind) (map word_bytes ws)) has
    ∙ open_place place (map part_of behind) (word_bytes word) (map word_bytes rest) other

-- the first word was added, and then the others
pub first_and_further : {A B : Type 0} (result : Result A B) (before one after word : List ℕ) (all rest : List (List ℕ)) → all ≡ word ∷ rest → one ≡ before ++ word
    → OnOk result (after ≡ one ++ spaced_out rest) → OnOk result (after ≡ before ++ spaced all)
first_and_further (Ok _) before one after word all rest is first further =
    further ∙ ap (λ (text : List ℕ). text ++ spaced_out rest) first ∙ append_assoc before word (spaced_out rest)
    ∙ ap (λ (text : List ℕ). before ++ text) (sym (spaced-cons word rest)) ∙ sym (ap (λ (ws : List (List ℕ)). before ++ spaced ws) is)
first_and_further (Err _) before one after word all rest is first further = tt

-- the word at the next place, which is fixed, and at one that is not
pub next_fixed : (tokens : List Token) (at : ℕ) (words : List Word) (used : ℕ) (text : Bor (List ℕ)) → at < length tokens → get_or tokens at token.Number ≡ token.Text text
    → left_at tokens at words used ≡ text.now ∷ left_at tokens (at + 1) words used
next_fixed tokens at words used text within is =
    let given = map word_bytes (drop used words) in
    ap (λ (places : List Part). filled places given) (places_at-cons tokens at within) ∙ ap (λ (t : Token). filled (part_of t ∷ places_at tokens (at + 1)) given) is

pub next_open : (tokens : List Token) (at : ℕ) (words : List Word) (used : ℕ) (word : Word) → at < length tokens → ((text : Bor (List ℕ)) → get_or tokens at token.Number ≢ token.Text text)
    → used < length words → get_or words used word ≡ word → left_at tokens at words used ≡ word_bytes word ∷ left_at tokens (at + 1) words (used + 1)
next_open tokens at words used word within other has is =
    let first : drop used words ≡ word ∷ drop (used + 1) words = rw add-one (drop-cons words used word has) ∙ ap (λ (w : Word). w ∷ drop (used + 1) words) is in
    ap (λ (places : List Part). filled places (map word_bytes (drop used words))) (places_at-cons tokens at within)
    ∙ ap (λ (ws : List Word). filled (part_of (get_or tokens at token.Number) ∷ places_at tokens (at + 1)) (map word_bytes ws)) first
    ∙ open_place (get_or tokens at token.Number) (places_at tokens (at + 1)) (word_bytes word) (map word_bytes (drop (used + 1) words)) other

-- what is left to write of a line whose words these are: a space stands in front of its first word where words stand before it
abbrev pub left_of : Bool → List (List ℕ) → List ℕ
left_of is_further words = if is_further then spaced_out words else spaced words

pub left_of-cons : (is_further : Bool) (word : List ℕ) (rest : List (List ℕ)) → left_of is_further (word ∷ rest) ≡ one_word is_further word ++ left_of true rest
left_of-cons true word rest = refl
left_of-cons false word rest = spaced-cons word rest

-- one word more was added: what is left is left behind it
pub one_less : (is_further : Bool) (before after word whole : List ℕ) (left rest : List (List ℕ)) → left ≡ word ∷ rest → before ++ left_of is_further left ≡ whole → after ≡ before ++ one_word is_further word
    → after ++ spaced_out rest ≡ whole
one_less is_further before after word whole left rest is so_far added =
    ap (λ (text : List ℕ). text ++ spaced_out rest) added ∙ append_assoc before (one_word is_further word) (spaced_out rest)
    ∙ ap (λ (text : List ℕ). before ++ text) (sym (left_of-cons is_further word rest)) ∙ ap (λ (ws : List (List ℕ)). before ++ left_of is_further ws) (sym is) ∙ so_far

-- the words were added, and then the newline
pub then_newline : (added : Bool) (before between after : List ℕ) (words : List (List ℕ)) → between ≡ before ++ spaced words → OnTrue added (after ≡ between ++ 10 ∷ []) → OnTrue added (after ≡ before ++ line_of words)
then_newline true before between after words first newline =
    newline ∙ ap (λ (text : List ℕ). text ++ 10 ∷ []) first ∙ append_assoc before (spaced words) (10 ∷ []) ∙ ap (λ (text : List ℕ). before ++ text) (sym (line_of-spaced words))
then_newline false before between after words first newline = tt
