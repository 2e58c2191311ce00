-- A word with the shape of a name is ASCII.
use Rattle.std.proofs.Common.{◌≡◌, ℕ, ◌<◌, true, nat_lt, ◌&&◌, List, [], ◌∷◌, length, IsTrue, arith}
use Rattle.std.specs.List.{list_all, AllByRecursion}
use Rattle.std.specs.Char.{is_ascii_alphabetic}
use Rattle.std.specs.Str.{IsUtf8}
use Rattle.std.proofs.lemmas.Bool.{and_parts}
use Rattle.std.proofs.lemmas.Bool.Decides.{nat_tests}
use Rattle.std.proofs.lemmas.Str.{IsUtf8-from_ascii}
use Rattle.std.proofs.lemmas.Str.Ascii.{IsAscii-from_all}
use Rattle.std.proofs.lemmas.List.Elements.{All-from_recursion}
use Rattle.bt_frame.specs.declared.limits.TheConstants.{MOST_NAME_BYTES}
use Rattle.bt_net.specs.Name.{is_name_byte, is_name}

byte_small : (b : ℕ) → is_name_byte b ≡ true → b < 128
byte_small b is = grind (arith, nat_tests)

letter_small : (b : ℕ) → is_ascii_alphabetic b ≡ true → b < 128
letter_small b is = grind (arith, nat_tests)

bytes_small : (bs : List ℕ) → list_all is_name_byte bs ≡ true → AllByRecursion (λ b. b < 128) bs
bytes_small [] is = tt
bytes_small (b ∷ bs) is =
    let parts = and_parts (is_name_byte b) (list_all is_name_byte bs) is in
    (byte_small b parts.0, bytes_small bs parts.1)

name_small : (word : List ℕ) → is_name word ≡ true → AllByRecursion (λ b. b < 128) word
name_small [] is = tt
name_small (first ∷ rest) is =
    let parts = and_parts (is_ascii_alphabetic first && nat_lt (length rest) MOST_NAME_BYTES) (list_all is_name_byte rest) is in
    (letter_small first (and_parts (is_ascii_alphabetic first) (nat_lt (length rest) MOST_NAME_BYTES) parts.0).0, bytes_small rest parts.1)

-- a word with the shape of a name is text
pub utf8_from_name : (word : List ℕ) → IsTrue (is_name word) → IsUtf8 word
utf8_from_name word is = IsUtf8-from_ascii word (IsAscii-from_all word (All-from_recursion (λ b. b < 128) word (name_small word is)))
