-- What holds of all pairs of two lists joined, and of their parts.
use Rattle.std.proofs.Common.{suc, ◌+◌, List, [], ◌∷◌, ◌++◌, length, get_or, All, AllPairs, subst, arith}
use Rattle.std.proofs.lemmas.List.{get_or_append_left, get_or-append-add, get_or_default, length-append}
use Rattle.std.proofs.lemmas.List.Elements.{All-append, All-head, All-tail}
use Rattle.std.proofs.lemmas.List.Kept.{AllPairs-cons}

-- all pairs of two lists, where those of each list hold and those across
pub AllPairs-append : {X : Type 0} (R : X → X → Type 0) (xs ys : List X) → AllPairs R xs → AllPairs R ys → All (λ x. All (R x) ys) xs
    → AllPairs R (xs ++ ys)
AllPairs-append R [] ys first second across = second
AllPairs-append R (x ∷ xs) ys first second across =
    let behind : All (R x) xs = λ k d within. first 0 (suc k) d (omega arith) (omega arith) in
    AllPairs-cons R x (xs ++ ys) (All-append (R x) xs ys behind (All-head (λ a. All (R a) ys) x xs across))
    (AllPairs-append R xs ys (λ i j d lt within. first (suc i) (suc j) d (omega arith) (omega arith)) second (All-tail (λ a. All (R a) ys) x xs across))

-- each of the first list with each of the second
pub All-across : {X : Type 0} (R : X → X → Type 0) (xs ys : List X) → AllPairs R (xs ++ ys) → All (λ x. All (R x) ys) xs
All-across R xs ys pairs i d in_first j e in_second =
    let both = pairs i (length xs + j) d (omega arith) (omega (arith, length-append xs ys)) in
    let left = subst (λ a. R a (get_or (xs ++ ys) (length xs + j) d)) (get_or_append_left xs ys d i in_first) both in
    let right = subst (R (get_or xs i d)) (get_or-append-add xs ys j d) left in
    subst (R (get_or xs i d)) (get_or_default ys j d e in_second) right

-- the pairs of the second list
pub AllPairs-second : {X : Type 0} (R : X → X → Type 0) (xs ys : List X) → AllPairs R (xs ++ ys) → AllPairs R ys
AllPairs-second R [] ys pairs = pairs
AllPairs-second R (x ∷ xs) ys pairs = AllPairs-second R xs ys (λ i j d lt within. pairs (suc i) (suc j) d (omega arith) (omega arith))

-- what holds of two lists joined holds of each
pub All-first : {X : Type 0} (P : X → Type 0) (xs ys : List X) → All P (xs ++ ys) → All P xs
All-first P xs ys all k d within = subst P (get_or_append_left xs ys d k within) (all k d (omega (arith, length-append xs ys)))

pub All-second : {X : Type 0} (P : X → Type 0) (xs ys : List X) → All P (xs ++ ys) → All P ys
All-second P xs ys all k d within = subst P (get_or-append-add xs ys k d) (all (length xs + k) d (omega (arith, length-append xs ys)))
