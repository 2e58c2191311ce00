-- Sums over the first elements of a list.
use Rattle.std.proofs.Common.{ℕ, zero, suc, ◌≤◌, List, [], ◌∷◌, take, sum_by, arith}
use Rattle.std.proofs.lemmas.List.Sums.{sum_by-cons}

-- the sum of more elements is no smaller
pub prefix_grows : {X : Type 0} (f : X → ℕ) (xs : List X) (i j : ℕ) → i ≤ j → sum_by f (take i xs) ≤ sum_by f (take j xs)
prefix_grows f xs zero j le = omega arith
prefix_grows f [] (suc i) zero le = omega arith
prefix_grows f [] (suc i) (suc j) le = omega arith
prefix_grows f (x ∷ xs) (suc i) zero le = absurd (omega arith)
prefix_grows f (x ∷ xs) (suc i) (suc j) le =
    let rest = prefix_grows f xs i j (omega arith) in
    omega (arith, rest, sum_by-cons f x (take i xs), sum_by-cons f x (take j xs))
