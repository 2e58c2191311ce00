-- The words of a line are no longer than the line.
use Rattle.std.proofs.Common.{◌≡◌, ℕ, ◌≤◌, List, [], ◌∷◌, length, length-append, drop, Some, ap, arith}
use Rattle.std.specs.List.{join_with_byte}
use Rattle.std.proofs.lemmas.List.Splits.{join_with_byte-slice_split}
use Rattle.bt_text.specs.Text.{words}
use Rattle.bt_text.specs.WordReader.{first_word}

first_short : (word : List ℕ) (rest : List (List ℕ)) → length word ≤ length (join_with_byte 32 (word ∷ rest))
first_short word [] = omega arith
first_short word (next ∷ rest) = omega (arith, length-append word (32 ∷ join_with_byte 32 (next ∷ rest)))

behind_short : (word : List ℕ) (rest : List (List ℕ)) → length (join_with_byte 32 rest) ≤ length (join_with_byte 32 (word ∷ rest))
behind_short word [] = omega arith
behind_short word (next ∷ rest) = omega (arith, length-append word (32 ∷ join_with_byte 32 (next ∷ rest)))

some_is : (a b : List ℕ) → Some a ≡ Some b → a ≡ b
some_is a b is = cc is

third_in : (all : List (List ℕ)) (word : List ℕ) → first_word (drop 1 (drop 1 all)) ≡ Some word → length word ≤ length (join_with_byte 32 all)
third_in [] word is = cc is
third_in (a ∷ []) word is = cc is
third_in (a ∷ b ∷ []) word is = cc is
third_in (a ∷ b ∷ c ∷ rest) word is =
    omega (arith, ap (λ (w : List ℕ). length w) (some_is c word is), first_short c rest, behind_short b (c ∷ rest), behind_short a (b ∷ c ∷ rest))

-- the third of them
pub third_short : (line word : List ℕ) → first_word (drop 1 (drop 1 (words line))) ≡ Some word → length word ≤ length line
third_short line word is = omega (arith, third_in (words line) word is, ap (λ (l : List ℕ). length l) (join_with_byte-slice_split 32 line))
