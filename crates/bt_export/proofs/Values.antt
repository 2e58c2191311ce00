-- The word of the value of a word is that word.
use Rattle.std.proofs.Common.{◌≡◌, ℕ, ◌^◌, ◌<◌, Bool, true, false, cond, leb, List, length, Option, Some, None, refl, sym, ap, ◌∙◌, arith}
use Rattle.std.specs.Str.{is_utf8}
use Rattle.std.proofs.lemmas.Bool.{leb-true}
use Rattle.std.proofs.lemmas.Str.Parse.{digits_value_short}
use Rattle.std.specs.Str.Parse.{digits_value}
use Rattle.serde_json.specs.Data.{Data, number, string, unsigned}
use Rattle.bt_text.specs.Text.{is_number, number_of, number_of_digits}
use Rattle.bt_text.proofs.TextNumbers.{decimal_from_number_of, digits_from_is_number, digits_model}
use Rattle.bt_export.specs.Object.{number_or_text, value_of}
use Rattle.bt_export.specs.Said.{word_of}

-- a text says its bytes
text_says : (word : List ℕ) (is : Bool) (value : Data) → cond is (Some (string word)) None ≡ Some value → word_of value ≡ Some word
text_says word true value has = let same : string word ≡ value = cc in ap word_of (sym same)
text_says word false value has = absurd cc

-- a number of few digits is small
small_number : (word : List ℕ) (is few : Bool) (n : ℕ) → is_number word ≡ is → leb (length word) 19 ≡ few → cond few (cond is (Some (digits_value 10 word)) None) None ≡ Some n → n < 2 ^ 64
small_number word true true n tested short has =
    let same : digits_value 10 word ≡ n = cc in
    omega (arith, same, digits_value_short digits_model word 19 (digits_from_is_number word tested).0 (leb-true (length word) 19 short))
small_number word false true n tested short has = absurd cc
small_number word is false n tested short has = absurd cc

its_number : (word : List ℕ) (few : Bool) (n : ℕ) → cond few (number_of word) None ≡ Some n → number_of word ≡ Some n
its_number word true n has = has
its_number word false n has = absurd cc

says : (word : List ℕ) (found : Option ℕ) (value : Data) → number_of_digits 19 word ≡ found → number_or_text word found ≡ Some value → word_of value ≡ Some word
says word None value tested has = text_says word (is_utf8 word) value has
says word (Some n) value tested has =
    let same : number (unsigned n) ≡ value = cc in
    let small = small_number word (is_number word) (leb (length word) 19) n refl refl tested in
    ap word_of (sym same) ∙ ap (λ (w : List ℕ). Some w) (sym (decimal_from_number_of word n small (its_number word (leb (length word) 19) n tested)))

pub value_says : (word : List ℕ) (value : Data) → value_of word ≡ Some value → word_of value ≡ Some word
value_says word value has = says word (number_of_digits 19 word) value refl has
