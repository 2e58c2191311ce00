-- What the test of a mode tells: whether each beam occurs in it once.
use Rattle.std.proofs.Common.{refl, arith, ◌≡◌, ◌≢◌, ℕ, suc, ◌<◌, ◌==◌, ◌&&◌, ◌||◌, not, Bool, true, false, List, [], ◌∷◌, length, All, AllPairs, nat_lt, sym}
use Rattle.std.specs.List.{list_any}
use Rattle.std.proofs.lemmas.Bool.{eqb-true, eq-eqb, lt-ltb, ltb-true}
use Rattle.std.proofs.lemmas.List.Elements.{All-nil, All-cons, All-head, All-tail}
use Rattle.std.proofs.lemmas.List.Kept.{AllPairs-cons}
use Rattle.bt_matrix.specs.Good.{IsPermutation}
use Rattle.bt_plan_chart.specs.Chart.{are_below, are_distinct, is_permutation}

and_left : (a b : Bool) → (a && b) ≡ true → a ≡ true
and_left true b e = refl
and_left false b e = e

and_right : (a b : Bool) → (a && b) ≡ true → b ≡ true
and_right true b e = e
and_right false b e = cc

both : (a b : Bool) → a ≡ true → b ≡ true → (a && b) ≡ true
both true b first second = second
both false b first second = first

nor_left : (a b : Bool) → not (a || b) ≡ true → a ≡ false
nor_left true b e = cc
nor_left false b e = refl

nor_right : (a b : Bool) → not (a || b) ≡ true → not b ≡ true
nor_right true b e = cc
nor_right false b e = e

neither : (a b : Bool) → a ≡ false → not b ≡ true → not (a || b) ≡ true
neither true b first second = cc
neither false b first second = second

not_true : (a : Bool) → (a ≡ true → ⊥) → a ≡ false
not_true true never = absurd (never refl)
not_true false never = refl

-- each of the downlinks is one of so many beams
below : (beams : ℕ) (perm : List ℕ) → are_below beams perm ≡ true → All (λ down. down < beams) perm
below beams [] told = All-nil (λ (down : ℕ). down < beams)
below beams (down ∷ rest) told = All-cons (λ (d : ℕ). d < beams) down rest (ltb-true down beams (and_left (nat_lt down beams) (are_below beams rest) told)) (below beams rest (and_right (nat_lt down beams) (are_below beams rest) told))

tells_below : (beams : ℕ) (perm : List ℕ) → All (λ down. down < beams) perm → are_below beams perm ≡ true
tells_below beams [] all = refl
tells_below beams (down ∷ rest) all = both (nat_lt down beams) (are_below beams rest) (lt-ltb down beams (All-head (λ (d : ℕ). d < beams) down rest all)) (tells_below beams rest (All-tail (λ (d : ℕ). d < beams) down rest all))

-- one downlink is none of some others
differs : (down : ℕ) (rest : List ℕ) → not (list_any (λ other. other == down) rest) ≡ true → All (λ other. down ≢ other) rest
differs down [] told = All-nil (λ (other : ℕ). down ≢ other)
differs down (next ∷ rest) told =
    let unlike : (next == down) ≡ false = nor_left (next == down) (list_any (λ other. other == down) rest) told in
    All-cons (λ (other : ℕ). down ≢ other) next rest (λ same. let alike : (next == down) ≡ true = eq-eqb next down (sym same) in cc)
    (differs down rest (nor_right (next == down) (list_any (λ other. other == down) rest) told))

tells_differs : (down : ℕ) (rest : List ℕ) → All (λ other. down ≢ other) rest → not (list_any (λ other. other == down) rest) ≡ true
tells_differs down [] all = refl
tells_differs down (next ∷ rest) all = neither (next == down) (list_any (λ other. other == down) rest)
    (not_true (next == down) (λ same. All-head (λ (other : ℕ). down ≢ other) next rest all (sym (eqb-true next down same))))
    (tells_differs down rest (All-tail (λ (other : ℕ). down ≢ other) next rest all))

-- no two of them are the same
distinct : (perm : List ℕ) → are_distinct perm ≡ true → AllPairs (λ a b. a ≢ b) perm
distinct [] told = λ i j d before within. absurd (omega (arith, within))
distinct (down ∷ rest) told =
    let first = not (list_any (λ other. other == down) rest) in
    AllPairs-cons (λ (a b : ℕ). a ≢ b) down rest (differs down rest (and_left first (are_distinct rest) told)) (distinct rest (and_right first (are_distinct rest) told))

tells_distinct : (perm : List ℕ) → AllPairs (λ a b. a ≢ b) perm → are_distinct perm ≡ true
tells_distinct [] all = refl
tells_distinct (down ∷ rest) all = both (not (list_any (λ other. other == down) rest)) (are_distinct rest)
    (tells_differs down rest (λ k d within. all 0 (suc k) d (omega arith) (omega (arith, within))))
    (tells_distinct rest (λ i j d before within. all (suc i) (suc j) d (omega (arith, before)) (omega (arith, within))))

pub permutation : (beams : ℕ) (perm : List ℕ) → is_permutation beams perm ≡ true → IsPermutation beams perm
permutation beams perm told =
    let counted = length perm == beams in
    let two : (counted && are_below beams perm) ≡ true = and_left (counted && are_below beams perm) (are_distinct perm) told in
    record {
      count = eqb-true (length perm) beams (and_left counted (are_below beams perm) two);
      in_range = below beams perm (and_right counted (are_below beams perm) two);
      distinct = distinct perm (and_right (counted && are_below beams perm) (are_distinct perm) told);
    }

pub tells_permutation : (beams : ℕ) (perm : List ℕ) → IsPermutation beams perm → is_permutation beams perm ≡ true
tells_permutation beams perm is =
    let counted = length perm == beams in
    both (counted && are_below beams perm) (are_distinct perm) (both counted (are_below beams perm) (eq-eqb (length perm) beams is.count) (tells_below beams perm is.in_range)) (tells_distinct perm is.distinct)
