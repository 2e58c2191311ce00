-- Sums over two lists, and how much passes a test of which no two pass.
use Rattle.std.proofs.Common.{◌≡◌, ℕ, suc, ◌+◌, ◌<◌, ◌≤◌, ◌==◌, ◌&&◌, if◌then◌else◌, Bool, true, false, List, [], ◌∷◌, length, map, get_or, sum_by, All, AllPairs, refl, sym, ap, ◌∙◌, arith, ⊎_elim}
use Rattle.std.specs.List.{range_with_len}
use Rattle.std.proofs.lemmas.Bool.{cases_Bool, false_from_ne_true, eqb-true, eq-eqb, and_parts}
use Rattle.std.proofs.lemmas.List.FromFn.{length-range_with_len, get_or-range_with_len}
use Rattle.std.proofs.lemmas.List.Sums.{sum_by-cons, sum_by-le, sum_by-le-sum_by, get_or-le-sum_by}

-- a sum of terms that are no less, each at its item
pub sum_by-le-within : {X : Type 0} (f g : X → ℕ) (xs : List X) → All (λ x. f x ≤ g x) xs → sum_by f xs ≤ sum_by g xs
sum_by-le-within f g [] le = omega arith
sum_by-le-within f g (x ∷ xs) le =
    let first : f x ≤ g x = le 0 x (omega arith) in
    let rest = sum_by-le-within f g xs (λ k d within. le (suc k) d (omega arith)) in
    omega (arith, first, rest, sum_by-cons f x xs, sum_by-cons g x xs)

-- a sum of equal terms
pub sum_by-same : {X : Type 0} (f g : X → ℕ) (xs : List X) → ((x : X) → f x ≡ g x) → sum_by f xs ≡ sum_by g xs
sum_by-same f g xs same = omega (arith, sum_by-le-sum_by f g xs (λ x. omega (arith, same x)), sum_by-le-sum_by g f xs (λ x. omega (arith, same x)))

-- a sum of sums
sum_by-add : {X : Type 0} (f g : X → ℕ) (xs : List X) → sum_by (λ x. f x + g x) xs ≡ sum_by f xs + sum_by g xs
sum_by-add f g [] = refl
sum_by-add f g (x ∷ xs) = omega (arith, sum_by-cons (λ x. f x + g x) x xs, sum_by-cons f x xs, sum_by-cons g x xs, sum_by-add f g xs)

-- a sum over the images
pub sum_by-map : {X Y : Type 0} (g : Y → ℕ) (f : X → Y) (xs : List X) → sum_by g (map f xs) ≡ sum_by (λ x. g (f x)) xs
sum_by-map g f [] = refl
sum_by-map g f (x ∷ xs) = rw (sum_by-cons g (f x) (map f xs), sum_by-cons (λ y. g (f y)) x xs, sum_by-map g f xs)

-- a sum of terms that are all zero
pub sum_by-none : {X : Type 0} (f : X → ℕ) (xs : List X) → All (λ x. f x ≡ 0) xs → sum_by f xs ≡ 0
sum_by-none f xs none = omega (arith, sum_by-le f 0 xs (λ k d within. omega (arith, none k d within)))

pub sum_by-zeros : {X : Type 0} (xs : List X) → sum_by (λ (x : X). 0) xs ≡ 0
sum_by-zeros xs = sum_by-none (λ x. 0) xs (λ k d within. refl)

-- sums over two lists may be taken in either order
pub sum_by-exchange : {X Y : Type 0} (f : X → Y → ℕ) (xs : List X) (ys : List Y)
    → sum_by (λ x. sum_by (f x) ys) xs ≡ sum_by (λ y. sum_by (λ x. f x y) xs) ys
sum_by-exchange f [] ys = sym (sum_by-zeros ys)
sum_by-exchange f (x ∷ xs) ys =
    let first = sum_by-cons (λ x. sum_by (f x) ys) x xs in
    let each = sum_by-same (λ y. sum_by (λ x. f x y) (x ∷ xs)) (λ y. f x y + sum_by (λ x. f x y) xs) ys (λ y. sum_by-cons (λ x. f x y) x xs) in
    let apart = sum_by-add (f x) (λ y. sum_by (λ x. f x y) xs) ys in
    omega (arith, first, each, apart, sum_by-exchange f xs ys)

-- nothing passes
pub sum_by-none_passes : {X : Type 0} (passes : X → Bool) (amount : ℕ) (xs : List X) → All (λ x. passes x ≡ false) xs
    → sum_by (λ x. if passes x then amount else 0) xs ≡ 0
sum_by-none_passes passes amount xs none =
    sum_by-none (λ x. if passes x then amount else 0) xs (λ k d within. ap (λ (b : Bool). if b then amount else 0) (none k d within))

-- no two pass, so the amount is counted once at most
pub sum_by-one_passes : {X : Type 0} (passes : X → Bool) (amount : ℕ) (xs : List X)
    → AllPairs (λ a b. passes a ≡ true → passes b ≡ true → ⊥) xs → sum_by (λ x. if passes x then amount else 0) xs ≤ amount
sum_by-one_passes passes amount [] once = omega arith
sum_by-one_passes passes amount (x ∷ xs) once = ⊎_elim
    (λ (yes : passes x ≡ true).
    let rest = sum_by-none_passes passes amount xs
    (λ k d within. false_from_ne_true (passes (get_or xs k d)) (λ other. once 0 (suc k) d (omega arith) (omega arith) yes other)) in
    let share : (if passes x then amount else 0) ≡ amount = ap (λ (b : Bool). if b then amount else 0) yes in
    omega (arith, share, rest, sum_by-cons (λ x. if passes x then amount else 0) x xs))
    (λ (no : passes x ≡ false).
    let rest = sum_by-one_passes passes amount xs (λ i j d lt within. once (suc i) (suc j) d (omega arith) (omega arith)) in
    let share : (if passes x then amount else 0) ≡ 0 = ap (λ (b : Bool). if b then amount else 0) no in
    omega (arith, share, rest, sum_by-cons (λ x. if passes x then amount else 0) x xs))
    (cases_Bool (passes x))

-- what has a place below a bound is counted at that place
at_its_place : (test : Bool) (place n : ℕ) → place < n
    → (if test then 1 else 0) ≤ sum_by (λ s. if test && place == s then 1 else 0) (range_with_len 0 n)
at_its_place false place n below = omega arith
at_its_place true place n below =
    let here = λ (s : ℕ). let share : ℕ = if place == s then 1 else 0 in share in
    let at : get_or (range_with_len 0 n) place 0 ≡ place = omega (arith, get_or-range_with_len 0 n place 0 below) in
    let within : place < length (range_with_len 0 n) = omega (arith, length-range_with_len 0 n) in
    let counted : here place ≡ 1 = ap (λ (b : Bool). let share : ℕ = if b then 1 else 0 in share) (eq-eqb place place refl) in
    let one : here (get_or (range_with_len 0 n) place 0) ≡ 1 = ap here at ∙ counted in
    omega (arith, one, get_or-le-sum_by here (range_with_len 0 n) place 0 within)

-- No two of those that pass have the same place, and all places are below a bound: so many pass at most.
pub sum_by-places_differ : {X : Type 0} (passes : X → Bool) (place_of : X → ℕ) (n : ℕ) (xs : List X)
    → AllPairs (λ a b. passes a ≡ true → passes b ≡ true → place_of a ≡ place_of b → ⊥) xs → All (λ x. place_of x < n) xs
    → sum_by (λ x. if passes x then 1 else 0) xs ≤ n
sum_by-places_differ {X} passes place_of n xs differ below =
    let share = λ (x : X) (s : ℕ). let one : ℕ = if passes x && place_of x == s then 1 else 0 in one in
    let each = sum_by-le-within (λ x. if passes x then 1 else 0) (λ x. sum_by (share x) (range_with_len 0 n)) xs
    (λ k d within. at_its_place (passes (get_or xs k d)) (place_of (get_or xs k d)) n (below k d within)) in
    let exchanged = sum_by-exchange share xs (range_with_len 0 n) in
    let once = sum_by-le (λ s. sum_by (λ x. share x s) xs) 1 (range_with_len 0 n)
    (λ k d within. let s = get_or (range_with_len 0 n) k d in sum_by-one_passes (λ x. passes x && place_of x == s) 1 xs
    (λ i j e lt inside first second.
    let a = and_parts (passes (get_or xs i e)) (place_of (get_or xs i e) == s) first in
    let b = and_parts (passes (get_or xs j e)) (place_of (get_or xs j e) == s) second in
    differ i j e lt inside a.0 b.0 (eqb-true _ _ a.1 ∙ sym (eqb-true _ _ b.1)))) in
    omega (arith, each, exchanged, once, length-range_with_len 0 n)
