-- A byte that stands in no tag.
use Rattle.std.proofs.Common.{◌≡◌, ℕ, ◌==◌, ◌&&◌, true, false, not, nat_lt, List, [], ◌∷◌, length, refl, arith}
use Rattle.std.specs.List.{list_all}
use Rattle.std.proofs.lemmas.Bool.{and_parts}
use Rattle.std.proofs.lemmas.Bool.Decides.{nat_tests}
use Rattle.bt_frame.specs.declared.limits.TheConstants.{MOST_NAME_BYTES}
use Rattle.bt_text.specs.Text.{lacks}
use Rattle.bt_words.specs.Tags.{is_tag, is_tag_byte}

bytes_lack : (byte : ℕ) (bs : List ℕ) → is_tag_byte byte ≡ false → list_all is_tag_byte bs ≡ true → lacks byte bs ≡ true
bytes_lack byte [] other are = refl
bytes_lack byte (b ∷ bs) other are =
    let parts = and_parts (is_tag_byte b) (list_all is_tag_byte bs) are in
    let here : not (b == byte) ≡ true = grind (arith, nat_tests, parts.0, other) in
    rw (here, bytes_lack byte bs other parts.1)

pub tag_lacks : (byte : ℕ) (tag : List ℕ) → (64 == byte) ≡ false → is_tag_byte byte ≡ false → is_tag tag ≡ true → lacks byte tag ≡ true
tag_lacks byte [] at other is = absurd cc
tag_lacks byte (first ∷ []) at other is = absurd cc
tag_lacks byte (first ∷ second ∷ rest) at other is =
    let parts = and_parts (first == 64 && nat_lt (length rest) MOST_NAME_BYTES) (list_all is_tag_byte (second ∷ rest)) is in
    let front = (and_parts (first == 64) (nat_lt (length rest) MOST_NAME_BYTES) parts.0).0 in
    let here : not (first == byte) ≡ true = grind (arith, nat_tests, front, at) in
    rw (here, bytes_lack byte (second ∷ rest) other parts.1)
