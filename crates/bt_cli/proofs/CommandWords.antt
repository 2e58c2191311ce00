-- Words of `make`.
use Rattle.std.proofs.Common.{◌≡◌, ℕ, ◌<◌, ◌≤◌, ◌-◌, ◌^◌, List, codes, decimal, Option, Some, None, option_map, option_and_then, true, false, refl, sym, ap, ◌∙◌, ⊎_elim, arith}
use Rattle.std.specs.Str.{bytes_eq}
use Rattle.std.proofs.lemmas.Bool.{cases_eq}
use Rattle.std.proofs.lemmas.Slice.Eq.{bytes_eq-Decides}
use Rattle.bt_text.specs.Text.{capped, number_of}
use Rattle.bt_text.proofs.TextNumbers.{decimal_from_number_of}
use Rattle.bt_cli.specs.NumberWords.{seed_of, within}

-- another word than that of the last number is not the last number
other_number : (word : List ℕ) (n : ℕ) → number_of word ≡ Some n → bytes_eq word (codes "18446744073709551615") ≡ false → n ≡ 2 ^ 64 - 1 → ⊥
other_number word n is other last =
    let spelled : word ≡ decimal (2 ^ 64 - 1) = decimal_from_number_of word (2 ^ 64 - 1) (omega arith) (is ∙ ap Some last) in
    let also : codes "18446744073709551615" ≡ decimal (2 ^ 64 - 1) = decimal_from_number_of (codes "18446744073709551615") (2 ^ 64 - 1) (omega arith) refl in
    let same : bytes_eq word (codes "18446744073709551615") ≡ true = (bytes_eq-Decides word (codes "18446744073709551615")).1 (spelled ∙ sym also) in
    let both : true ≡ false = sym same ∙ other in
    cc

past_range : (n : ℕ) → 2 ^ 64 - 1 < n → None ≡ within 0 (2 ^ 64 - 1) n
past_range n over = grind (arith, over)

-- a word of a number past the last, which the last stands for
pub past_last : (word : List ℕ) (seed : ℕ) (read : Option ℕ) → number_of word ≡ read → Some seed ≡ option_map capped read → 2 ^ 64 - 1 ≤ seed → bytes_eq word (codes "18446744073709551615") ≡ false → None ≡ seed_of word
past_last word seed None is value large other = cc
past_last word seed (Some n) is value large other =
    let capped_is : seed ≡ capped n = cc in
    let over : 2 ^ 64 - 1 < n = ⊎_elim
    (λ (same : n ≡ 2 ^ 64 - 1). absurd (other_number word n is other same))
    (λ (not_same : n ≡ 2 ^ 64 - 1 → ⊥). omega (arith, capped_is, large, not_same))
    (cases_eq n (2 ^ 64 - 1)) in
    past_range n over ∙ sym (ap (option_and_then (within 0 (2 ^ 64 - 1))) is)
