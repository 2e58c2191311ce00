-- The first place at which a test passes, as a loop finds it.
use Rattle.std.proofs.Common.{◌≡◌, ℕ, ◌<◌, Bool, true, false, Some, None, List, length, get_or, position, arith}
use Rattle.std.specs.List.{position_or_len}
use Rattle.std.proofs.lemmas.Bool.Decides.{nat_tests}
use Rattle.std.proofs.lemmas.List.Sums.{position_or_len_is}

pub position-first : {X : Type 0} (p : X → Bool) (xs : List X) (i : ℕ) (d : X) → i < length xs → ((k : ℕ) → k < i → p (get_or xs k d) ≡ false) → p (get_or xs i d) ≡ true
    → position p xs ≡ Some i
position-first p xs i d within before here =
    let first : position_or_len p xs ≡ i = position_or_len_is p xs i d (omega arith) before (λ _. here) in
    rw first (grind (arith, nat_tests))

pub position-nowhere : {X : Type 0} (p : X → Bool) (xs : List X) (d : X) → ((k : ℕ) → k < length xs → p (get_or xs k d) ≡ false) → position p xs ≡ None
position-nowhere p xs d before =
    let first : position_or_len p xs ≡ length xs = position_or_len_is p xs (length xs) d (omega arith) before (λ within. absurd (omega arith)) in
    rw first (grind (arith, nat_tests))
