-- The word in front of a line, read byte by byte.
use Rattle.std.proofs.Common.{◌≡◌, ℕ, ◌+◌, ◌*◌, ◌<◌, ◌≤◌, ◌==◌, ◌&&◌, leb, Bool, true, false, cond, not, is_some, Option, Some, None, option_and_then, List, [], ◌∷◌, length, get_or, take, drop, slice_range, refl, ap, sym, ◌∙◌, arith, add-one, eq-eqb}
use Rattle.std.specs.Char.{is_ascii_digit, digit_value}
use Rattle.std.specs.List.{onto_first, list_all}
use Rattle.std.specs.Option.{option_map}
use Rattle.std.specs.Str.Parse.{digits_value_after}
use Rattle.std.specs.Int.{IsInRange}
use Rattle.std.proofs.Math.Seq.{drop-cons}
use Rattle.std.proofs.lemmas.Bool.{lt-leb}
use Rattle.std.proofs.lemmas.Bool.Decides.{nat_tests}
use Rattle.std.proofs.lemmas.Slice.{between_to_end}
use Rattle.std.proofs.lemmas.Str.{digit_value_digit}
use Rattle.bt_text.specs.Text.{words}
use Rattle.bt_text.proofs.FirstLine.{HasFirst, onto_first-HasFirst, cond-HasFirst}
use Rattle.bt_text.proofs.TextLines.{slice_split-place, slice_split-nowhere}
use Rattle.bt_text.specs.WordReader.{words_left, first_word, digits_after}

-- the words of a line by its first space
pub words-at_space : (line : List ℕ) (at : ℕ) → at < length line → ((k : ℕ) → k < at → (get_or line k 0 == 32) ≡ false) → get_or line at 0 ≡ 32
    → words line ≡ take at line ∷ words (slice_range line (at + 1) (length line))
words-at_space line at inside before here =
    rw (between_to_end line (at + 1) (length line) (omega (arith, inside)))
    (slice_split-place (λ b. b == 32) line at 0 inside before (eq-eqb (get_or line at 0) 32 here))

pub words-no_space : (line : List ℕ) → ((k : ℕ) → k < length line → (get_or line k 0 == 32) ≡ false) → words line ≡ line ∷ []
words-no_space line none = slice_split-nowhere (λ b. b == 32) line 0 none

-- a line has a first word
pub words-HasFirst : (line : List ℕ) → HasFirst (words line)
words-HasFirst [] = ([], [], refl)
words-HasFirst (b ∷ rest) = cond-HasFirst _ ([] ∷ words rest) (onto_first b (words rest)) ([], words rest, refl) (onto_first-HasFirst b (words rest))

-- what the digits of the word in front write behind those of `n`
abbrev pub digits_front : ℕ → ℕ → List (List ℕ) → Option ℕ
digits_front most n ws = option_and_then (digits_after most n) (first_word ws)

other_from_digit : (b : ℕ) → is_ascii_digit b ≡ true → (b == 32) ≡ false
other_from_digit b is = grind (arith, nat_tests)

pub value_from_digit : (b : ℕ) → is_ascii_digit b ≡ true → digit_value b + 48 ≡ b
value_from_digit b is = let range : IsInRange 48 57 b = grind (arith, nat_tests) in digit_value_digit b range

-- one digit more
digit_more : (most n b : ℕ) (rest : List ℕ) → is_ascii_digit b ≡ true → digits_front most n (words (b ∷ rest)) ≡ digits_front most (n * 10 + digit_value b) (words rest)
digit_more most n b rest is =
    let first = words-HasFirst rest in
    rw (other_from_digit b is, first.2, is) refl

digit_more-rest : (b : ℕ) (rest : List ℕ) → is_ascii_digit b ≡ true → drop 1 (words (b ∷ rest)) ≡ drop 1 (words rest)
digit_more-rest b rest is =
    let first = words-HasFirst rest in
    rw (other_from_digit b is, first.2) refl

-- a list from a place on
front_at : (line : List ℕ) (at : ℕ) → at < length line → drop at line ≡ get_or line at 0 ∷ drop (at + 1) line
front_at line at within = rw add-one (drop-cons line at 0 within)

pub digit_at : (most n more at : ℕ) (line : List ℕ) → at < length line → is_ascii_digit (get_or line at 0) ≡ true → more + 48 ≡ n * 10 + get_or line at 0
    → digits_front most n (words (drop at line)) ≡ digits_front most more (words (drop (at + 1) line))
digit_at most n more at line within is value =
    let sum : n * 10 + digit_value (get_or line at 0) ≡ more = omega (arith, value_from_digit (get_or line at 0) is) in
    ap (λ l. digits_front most n (words l)) (front_at line at within) ∙ digit_more most n (get_or line at 0) (drop (at + 1) line) is ∙ ap (λ m. digits_front most m (words (drop (at + 1) line))) sum

pub digit_at-rest : (at : ℕ) (line : List ℕ) → at < length line → is_ascii_digit (get_or line at 0) ≡ true → drop 1 (words (drop at line)) ≡ drop 1 (words (drop (at + 1) line))
digit_at-rest at line within is = ap (λ l. drop 1 (words l)) (front_at line at within) ∙ digit_more-rest (get_or line at 0) (drop (at + 1) line) is

-- digits only make a number greater
grows : (n : ℕ) (word : List ℕ) → n ≤ digits_value_after 10 n word
grows n [] = omega arith
grows n (b ∷ word) = omega (arith, grows (n * 10 + digit_value b) word)

neither : (a b : Bool) (x : Option ℕ) → b ≡ false → cond (a && b) x None ≡ None
neither true b x is = rw is refl
neither false b x is = refl

pub too_great : (most n : ℕ) (ws : List (List ℕ)) → most < n → digits_front most n ws ≡ None
too_great most n [] over = refl
too_great most n (word ∷ ws) over =
    let beyond : most < digits_value_after 10 n word = omega (arith, grows n word) in
    neither (list_all is_ascii_digit word) (leb (digits_value_after 10 n word) most) (Some (digits_value_after 10 n word)) (lt-leb (digits_value_after 10 n word) most beyond)

some_left : (first : List ℕ) (rest : List (List ℕ)) → false ≡ (length (first ∷ rest) == 0)
some_left first rest = grind (arith, nat_tests)

-- no word is left where nothing of the line is
pub done_from_left : {X : Type 0} (v : X → List ℕ) (rest : Option X) (done : Bool) → is_some rest ≡ not done → done ≡ (length (words_left (option_map v rest)) == 0)
done_from_left v None true is = refl
done_from_left v None false is = absurd cc
done_from_left v (Some rest) true is = absurd cc
done_from_left v (Some rest) false is = let first = words-HasFirst (v rest) in rw first.2 (some_left first.0 first.1)

-- the words by the one in front, and by none
pub front_word : (word : List ℕ) (ws rest : List (List ℕ)) → Some word ≡ first_word ws → rest ≡ drop 1 ws → ws ≡ word ∷ rest
front_word word [] rest is behind = absurd cc
front_word word (first ∷ ws) rest is behind =
    let same : first ≡ word = cc in
    ap (λ w. w ∷ ws) same ∙ ap (λ r. word ∷ r) (sym behind)

pub no_word : (ws : List (List ℕ)) → true ≡ (length ws == 0) → ws ≡ []
no_word [] done = refl
no_word (word ∷ ws) done = let other : false ≡ (length (word ∷ ws) == 0) = some_left word ws in absurd cc
