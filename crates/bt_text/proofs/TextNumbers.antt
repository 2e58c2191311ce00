-- Numbers: what words are, and how a number is spelled.
use Rattle.std.proofs.Common.{zero, suc, ◌≡◌, ℕ, ◌+◌, ◌/◌, ◌%◌, ◌-◌, ◌^◌, ◌<◌, ◌≤◌, ◌==◌, Bool, true, false, Option, Some, None, option_and_then, if◌then◌else◌, List, [], ◌∷◌, map, length, get_or, decimal, not, length-append, refl, sym, ap, ◌∙◌, arith, rules}
use Rattle.std.specs.Char.{is_ascii_digit}
use Rattle.std.specs.List.{All, list_all}
use Rattle.std.specs.Option.{option_map}
use Rattle.std.specs.Str.Parse.{digits_value}
use Rattle.std.proofs.lemmas.Bool.Decides.{nat_tests}
use Rattle.std.proofs.lemmas.Fmt.{decimal_is_IsNumeral, decimal-digits_value, decimal_digit, decimal_step, first_decimal}
use Rattle.std.proofs.lemmas.List.{length-map}
use Rattle.std.proofs.lemmas.List.Elements.{All-head, All-same, All-tail}
use Rattle.std.proofs.lemmas.Str.Parse.{digits_value_short, IsNumeralModel, numerals_by_value}
use Rattle.bt_text.specs.Text.{words, is_number, number_of, numbers_of, capped, spaced, lacks}
use Rattle.bt_text.proofs.TextLines.{words-spaced, spaced-words}

-- a list of digits by the test that computes it
pub digits_model : IsNumeralModel (λ ds. list_all is_ascii_digit ds ≡ true) (digits_value 10)
digits_model = numerals_by_value _ (search rules)

-- a word of digits is a number if it has one byte, or does not begin with 0
pub is_number_from_digits : (word : List ℕ) → list_all is_ascii_digit word ≡ true → 0 < length word → (get_or word 0 0 ≡ 48 → length word ≡ 1) → is_number word ≡ true
is_number_from_digits [] digits filled alone = absurd (omega arith)
is_number_from_digits (digit ∷ []) digits filled alone = grind (arith, nat_tests)
is_number_from_digits (first ∷ second ∷ rest) digits filled alone = grind (arith, nat_tests)

-- and only then
pub digits_from_is_number : (word : List ℕ) → is_number word ≡ true → (list_all is_ascii_digit word ≡ true) × (0 < length word) × (get_or word 0 0 ≡ 48 → length word ≡ 1)
digits_from_is_number [] is = cc
digits_from_is_number (digit ∷ []) is = (grind (arith, nat_tests), omega arith, λ _. refl)
digits_from_is_number (first ∷ second ∷ rest) is = (grind (arith, nat_tests), omega arith, grind (arith, nat_tests))

-- a number by its spelling: a zero stands in front only where it stands alone
zero_alone : (n : ℕ) → n < 2 ^ 64 → get_or (decimal n) 0 0 ≡ 48 → length (decimal n) ≡ 1
zero_alone zero small zero_first = ap length (decimal_digit 0 (omega arith))
zero_alone (suc n) small zero_first = absurd (omega (arith, first_decimal (suc n) (omega arith) small))

-- what is printed of a number is digits, and a number
pub digits-decimal : (n : ℕ) → n < 2 ^ 64 → list_all is_ascii_digit (decimal n) ≡ true
digits-decimal n small = digits_model.from (decimal n) (decimal_is_IsNumeral n small).0.1

pub is_number-decimal : (n : ℕ) → n < 2 ^ 64 → is_number (decimal n) ≡ true
is_number-decimal n small = is_number_from_digits (decimal n) (digits-decimal n small) (decimal_is_IsNumeral n small).0.0 (zero_alone n small)

-- what is printed of a number is read as that number
pub number_of-decimal : (n : ℕ) → n < 2 ^ 64 → number_of (decimal n) ≡ Some n
number_of-decimal n small =
    ap (λ b. if b then Some (digits_value 10 (decimal n)) else None) (is_number-decimal n small) ∙ ap Some (decimal_is_IsNumeral n small).1

chosen : (b : Bool) (value n : ℕ) → (if b then Some value else None) ≡ Some n → (b ≡ true) × (value ≡ n)
chosen true value n is = (refl, cc)
chosen false value n is = cc

-- a number has one spelling, the printed one
pub decimal_from_number_of : (word : List ℕ) (n : ℕ) → n < 2 ^ 64 → number_of word ≡ Some n → word ≡ decimal n
decimal_from_number_of word n small is =
    let read = chosen (is_number word) (digits_value 10 word) n is in
    let shape = digits_from_is_number word read.0 in
    sym (decimal-digits_value digits_model word shape.0 shape.1 shape.2 (omega (arith, read.1))) ∙ ap decimal read.1

capped-small : (n : ℕ) → n < 2 ^ 64 - 1 → capped n ≡ n
capped-small n small = omega arith

short-capped : (is : Bool) (n : ℕ) → (is ≡ true → n < 2 ^ 64 - 1) → option_map capped (if is then Some n else None) ≡ (if is then Some n else None)
short-capped true n small = ap (λ (m : ℕ). Some m) (capped-small n (small refl))
short-capped false n small = refl

-- nineteen digits write a number that is never capped
pub number_of-short : (word : List ℕ) (most : ℕ) → length word ≤ most → most ≤ 19 → option_map capped (number_of word) ≡ number_of word
number_of-short word most few small = short-capped (is_number word) (digits_value 10 word) (λ is. omega (arith, digits_value_short digits_model word 19 (digits_from_is_number word is).0 (omega arith)))

-- the same of many
pub numbers_of-decimals : (ns : List ℕ) → All (λ n. n < 2 ^ 64) ns → numbers_of (map decimal ns) ≡ Some ns
numbers_of-decimals [] small = refl
numbers_of-decimals (n ∷ ns) small =
    rw (number_of-decimal n (All-head (λ n. n < 2 ^ 64) n ns small), numbers_of-decimals ns (All-tail (λ n. n < 2 ^ 64) n ns small))

front : (first : Option ℕ) (rest : Option (List ℕ)) (ns : List ℕ) → option_and_then (λ n. option_and_then (λ ns. Some (n ∷ ns)) rest) first ≡ Some ns → (n : ℕ) × (more : List ℕ) × (first ≡ Some n) × (rest ≡ Some more) × (ns ≡ n ∷ more)
front None rest ns is = cc
front (Some n) None ns is = cc
front (Some n) (Some more) ns is = (n, more, refl, refl, cc)

pub decimals_from_numbers_of : (words : List (List ℕ)) (ns : List ℕ) → All (λ n. n < 2 ^ 64) ns → numbers_of words ≡ Some ns → words ≡ map decimal ns
decimals_from_numbers_of [] ns small is = let empty : ns ≡ [] = cc in rw empty
decimals_from_numbers_of (word ∷ words) ns small is =
    let (n, more, first, rest, whole) = front (number_of word) (numbers_of words) ns is in
    let these = All-same (λ n. n < 2 ^ 64) (n ∷ more) ns (sym whole) small in
    let here = decimal_from_number_of word n (All-head (λ n. n < 2 ^ 64) n more these) first in
    let behind = decimals_from_numbers_of words more (All-tail (λ n. n < 2 ^ 64) n more these) rest in
    ap (λ w. w ∷ words) here ∙ ap (λ ws. decimal n ∷ ws) behind ∙ ap (map decimal) (sym whole)

pub length-numbers_of : (words : List (List ℕ)) (ns : List ℕ) → numbers_of words ≡ Some ns → length ns ≡ length words
length-numbers_of [] ns is = let empty : ns ≡ [] = cc in rw empty
length-numbers_of (word ∷ words) ns is =
    let (n, more, first, rest, whole) = front (number_of word) (numbers_of words) ns is in
    ap length whole ∙ ap suc (length-numbers_of words more rest)

-- no digit is a byte of another kind
pub lacks_from_digits : (byte : ℕ) (word : List ℕ) → is_ascii_digit byte ≡ false → list_all is_ascii_digit word ≡ true → lacks byte word ≡ true
lacks_from_digits byte [] other digits = refl
lacks_from_digits byte (digit ∷ word) other digits =
    let here : not (digit == byte) ≡ true = grind (arith, nat_tests) in
    let behind : list_all is_ascii_digit word ≡ true = grind (arith, nat_tests) in
    rw (here, lacks_from_digits byte word other behind)

pub lacks-decimal : (byte n : ℕ) → is_ascii_digit byte ≡ false → n < 2 ^ 64 → lacks byte (decimal n) ≡ true
lacks-decimal byte n other small = lacks_from_digits byte (decimal n) other (digits-decimal n small)

pub lacks-decimals : (byte : ℕ) (ns : List ℕ) → is_ascii_digit byte ≡ false → All (λ n. n < 2 ^ 64) ns → list_all (lacks byte) (map decimal ns) ≡ true
lacks-decimals byte [] other small = refl
lacks-decimals byte (n ∷ ns) other small =
    rw (lacks-decimal byte n other (All-head (λ n. n < 2 ^ 64) n ns small), lacks-decimals byte ns other (All-tail (λ n. n < 2 ^ 64) n ns small))

-- a line of numbers is read as these numbers, and has one spelling
pub numbers_of-line : (ns : List ℕ) → 0 < length ns → All (λ n. n < 2 ^ 64) ns → numbers_of (words (spaced (map decimal ns))) ≡ Some ns
numbers_of-line ns filled small =
    ap numbers_of (words-spaced (map decimal ns) (omega (arith, length-map ns decimal)) (lacks-decimals 32 ns refl small)) ∙ numbers_of-decimals ns small

pub line_from_numbers_of : (line : List ℕ) (ns : List ℕ) → All (λ n. n < 2 ^ 64) ns → numbers_of (words line) ≡ Some ns → line ≡ spaced (map decimal ns)
line_from_numbers_of line ns small is = sym (spaced-words line) ∙ ap spaced (decimals_from_numbers_of (words line) ns small is)

-- how many digits a number of at most four has
pub length_one : (n : ℕ) → n < 10 → length (decimal n) ≡ 1
length_one n small = ap length (decimal_digit n small)

length_more : (n digits : ℕ) → 10 ≤ n → n < 2 ^ 64 → length (decimal (n / 10)) ≡ digits → length (decimal n) ≡ digits + 1
length_more n digits large small behind =
    ap length (decimal_step n large small) ∙ length-append (decimal (n / 10)) ((48 + n % 10) ∷ []) ∙ ap (λ k. k + 1) behind

pub length_two : (n : ℕ) → 10 ≤ n → n < 100 → length (decimal n) ≡ 2
length_two n large small = length_more n 1 large (omega arith) (length_one (n / 10) (omega arith))

pub length_three : (n : ℕ) → 100 ≤ n → n < 1000 → length (decimal n) ≡ 3
length_three n large small = length_more n 2 (omega arith) (omega arith) (length_two (n / 10) (omega arith) (omega arith))

pub length_four : (n : ℕ) → 1000 ≤ n → n < 10000 → length (decimal n) ≡ 4
length_four n large small = length_more n 3 (omega arith) (omega arith) (length_three (n / 10) (omega arith) (omega arith))
