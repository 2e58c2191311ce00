-- Beginnings of one list whose editions ascend.
use Rattle.std.proofs.Common.{◌≡◌, ℕ, ◌+◌, ◌≤◌, List, [], ◌∷◌, ◌++◌, refl, subst, arith, le_refl, zero, suc, All, ◌⊎◌, inl, inr, ⊎_elim, Option, Some, None}
use mathlib.Core.List.{IsPrefix}
use Rattle.bt_demand.specs.declared.plan.Plan.{Plan}
use Rattle.bt_shared.specs.Plans.{last_after, next_of, next_edition, AscendsAfter, Ascends}

-- the marks of an ascending list rise
pub rises : (o : Option Plan) (xs : List Plan) → AscendsAfter o xs → next_of o ≤ next_of (last_after o xs)
rises o [] up = le_refl (next_of o)
rises o (x ∷ xs) up = let r : x.edition.0 + 1 ≤ next_of (last_after (Some x) xs) = rises (Some x) xs up.1 in omega (arith, up.0)

-- a beginning of an ascending list ascends
pub front_ascends : (o : Option Plan) (xs zs : List Plan) → AscendsAfter o zs → IsPrefix xs zs → AscendsAfter o xs
front_ascends o [] zs up p = tt
front_ascends o (x ∷ xs) [] up p = absurd (cc (p.1))
front_ascends o (x ∷ xs) (z ∷ zs) up p =
    let here : z ≡ x = cc (p.1) in
    subst (λ (y : Plan). (next_of o ≤ y.edition.0) × AscendsAfter (Some y) xs) here (up.0, front_ascends (Some z) xs zs up.1 (p.0, cc (p.1)))

-- of two beginnings of an ascending list, the one with the lower next_edition begins the other
pub lower_begins : (o : Option Plan) (xs ys zs : List Plan) → AscendsAfter o zs → IsPrefix xs zs → IsPrefix ys zs
    → next_of (last_after o xs) ≤ next_of (last_after o ys) → IsPrefix xs ys
lower_begins o [] ys zs up p q le = (ys, refl)
lower_begins o (x ∷ xs) [] zs up p q le =
    let mine : AscendsAfter o (x ∷ xs) = front_ascends o (x ∷ xs) zs up p in
    let r : x.edition.0 + 1 ≤ next_of (last_after (Some x) xs) = rises (Some x) xs mine.1 in
    absurd (omega (arith, mine.0))
lower_begins o (x ∷ xs) (y ∷ ys) [] up p q le = absurd (cc (p.1))
lower_begins o (x ∷ xs) (y ∷ ys) (z ∷ zs) up p q le =
    let xz : x ≡ z = cc (p.1) in
    let yz : y ≡ z = cc (q.1) in
    let le' : next_of (last_after (Some z) xs) ≤ next_of (last_after (Some z) ys) =
    subst (λ (w : Plan). next_of (last_after (Some w) xs) ≤ next_of (last_after (Some z) ys)) xz (subst (λ (w : Plan). next_of (last_after (Some x) xs) ≤ next_of (last_after (Some w) ys)) yz le) in
    let rest = lower_begins (Some z) xs ys zs up.1 (p.0, cc (p.1)) (q.0, cc (q.1)) le' in
    (rest.0, cc (xz, yz, rest.1))

-- two beginnings with one next_edition are one list
pub same_next : (o : Option Plan) (xs ys zs : List Plan) → AscendsAfter o zs → IsPrefix xs zs → IsPrefix ys zs
    → next_of (last_after o xs) ≡ next_of (last_after o ys) → xs ≡ ys
same_next o [] [] zs up p q e = refl
same_next o [] (y ∷ ys) zs up p q e =
    let mine : AscendsAfter o (y ∷ ys) = front_ascends o (y ∷ ys) zs up q in
    let r : y.edition.0 + 1 ≤ next_of (last_after (Some y) ys) = rises (Some y) ys mine.1 in
    absurd (omega (arith, mine.0, e))
same_next o (x ∷ xs) [] zs up p q e =
    let mine : AscendsAfter o (x ∷ xs) = front_ascends o (x ∷ xs) zs up p in
    let r : x.edition.0 + 1 ≤ next_of (last_after (Some x) xs) = rises (Some x) xs mine.1 in
    absurd (omega (arith, mine.0, e))
same_next o (x ∷ xs) (y ∷ ys) [] up p q e = absurd (cc (p.1))
same_next o (x ∷ xs) (y ∷ ys) (z ∷ zs) up p q e =
    let xz : x ≡ z = cc (p.1) in
    let yz : y ≡ z = cc (q.1) in
    let e' : next_of (last_after (Some z) xs) ≡ next_of (last_after (Some z) ys) =
    subst (λ (w : Plan). next_of (last_after (Some w) xs) ≡ next_of (last_after (Some z) ys)) xz (subst (λ (w : Plan). next_of (last_after (Some x) xs) ≡ next_of (last_after (Some w) ys)) yz e) in
    let rest = same_next (Some z) xs ys zs up.1 (p.0, cc (p.1)) (q.0, cc (q.1)) e' in
    cc (xz, yz, rest)

pub last_snoc : (o : Option Plan) (xs : List Plan) (p : Plan) → last_after o (xs ++ p ∷ []) ≡ Some p
last_snoc o [] p = refl
last_snoc o (x ∷ xs) p = last_snoc (Some x) xs p

-- a plan of a later edition may follow
pub snoc_ascends : (o : Option Plan) (xs : List Plan) (p : Plan) → AscendsAfter o xs → next_of (last_after o xs) ≤ p.edition.0 → AscendsAfter o (xs ++ p ∷ [])
snoc_ascends o [] p up le = (le, tt)
snoc_ascends o (x ∷ xs) p up le = (up.0, snoc_ascends (Some x) xs p up.1 le)

pub all_one : {X : Type 0} (P : X → Type 0) (x : X) → P x → All P (x ∷ [])
all_one P x p zero d lt = p
all_one P x p (suc k) d lt = absurd (omega arith)

pub total : (m n : ℕ) → (m ≤ n) ⊎ (n ≤ m)
total zero n = inl (omega arith)
total (suc m) zero = inr (omega arith)
total (suc m) (suc n) = ⊎_elim (λ (le : m ≤ n). inl (omega arith)) (λ (le : n ≤ m). inr (omega arith)) (total m n)

-- of two beginnings of an ascending list, one begins the other
pub one_begins : (xs ys zs : List Plan) → Ascends zs → IsPrefix xs zs → IsPrefix ys zs → IsPrefix xs ys ⊎ IsPrefix ys xs
one_begins xs ys zs up p q = ⊎_elim (λ (le : next_edition xs ≤ next_edition ys). inl (lower_begins None xs ys zs up p q le)) (λ (le : next_edition ys ≤ next_edition xs). inr (lower_begins None ys xs zs up q p le)) (total (next_edition xs) (next_edition ys))
