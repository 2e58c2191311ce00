-- What is read of a text is what is heard of a line.
use Rattle.std.proofs.Common.{◌≡◌, ℕ, ◌==◌, if◌then◌else◌, Bool, true, false, List, [], ◌∷◌, Option, Some, None, option_and_then, Result, Ok, Err, refl, arith}
use Rattle.std.specs.Prelude.{codes}
use Rattle.std.proofs.lemmas.Bool.Decides.{nat_tests}
use Rattle.hex.specs.Hex.{decode_of}
use Rattle.hex.specs.declared.error.FromHexError.{FromHexError}
use Rattle.bt_frame.specs.declared.limits.TheConstants.{LAST_MARK}
use Rattle.bt_text.specs.Text.{is_word, words}
use Rattle.bt_sites.specs.Stamps.{Begun, Radio}
use Rattle.bt_script.specs.Heard.{begins, begun_in, bus_line_of, bus_words_of, if_begun, number_in, radio_in, said_in}
use Rattle.bt_script.specs.declared.heard.BusLine.{BusLine}
use Rattle.bt_station.proofs.Acts.{mark_of}
use Rattle.bt_apart_laws.specs.Acts.{IsOfLine}

some-is : {X : Type 0} (a b : X) → Some a ≡ Some b → a ≡ b
some-is a b is = cc is

read-begun : (n : ℕ) (test : Bool) (one : BusLine) → (n == 0) ≡ test → begins (if test then None else Some (mark_of n)) ≡ Some one → IsOfLine one
read-begun n true one some is = absurd (cc is)
read-begun n false one some is = record { line = Begun n; is = some-is _ _ is; some = grind (arith, nat_tests, some) }

read-mark : (number : Option ℕ) (one : BusLine) → begins (option_and_then if_begun number) ≡ Some one → IsOfLine one
read-mark None one is = absurd (cc is)
read-mark (Some n) one is = read-begun n (n == 0) one refl is

read-one : (test : Bool) (word : List ℕ) (one : BusLine) → (if test then begins (begun_in word) else None) ≡ Some one → IsOfLine one
read-one true word one is = read-mark (number_in LAST_MARK word) one is
read-one false word one is = absurd (cc is)

read-bytes : (stamp : ℕ) (read : Result (List ℕ) FromHexError) (one : BusLine) → said_in stamp read ≡ Some one → IsOfLine one
read-bytes stamp (Ok bytes) one is = record { line = Radio stamp bytes; is = some-is _ _ is; some = tt }
read-bytes stamp (Err fault) one is = absurd (cc is)

read-radio : (number : Option ℕ) (digits : List ℕ) (one : BusLine) → option_and_then (λ (n : ℕ). said_in n (decode_of digits)) number ≡ Some one → IsOfLine one
read-radio None digits one is = absurd (cc is)
read-radio (Some n) digits one is = read-bytes n (decode_of digits) one is

read-two : (test : Bool) (stamp digits : List ℕ) (one : BusLine) → (if test then radio_in stamp digits else None) ≡ Some one → IsOfLine one
read-two true stamp digits one is = read-radio (number_in LAST_MARK stamp) digits one is
read-two false stamp digits one is = absurd (cc is)

read-words : (all : List (List ℕ)) (one : BusLine) → bus_words_of all ≡ Some one → IsOfLine one
read-words [] one is = absurd (cc is)
read-words (name ∷ []) one is = absurd (cc is)
read-words (name ∷ word ∷ []) one is = read-one (is_word (codes "mark") name) word one is
read-words (name ∷ stamp ∷ digits ∷ []) one is = read-two (is_word (codes "radio") name) stamp digits one is
read-words (name ∷ stamp ∷ digits ∷ word ∷ more) one is = absurd (cc is)

pub said-read : (text : List ℕ) (one : BusLine) → bus_line_of text ≡ Some one → IsOfLine one
said-read text one is = read-words (words text) one is
