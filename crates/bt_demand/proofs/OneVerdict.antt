-- A schedule has at most one verdict for a matrix.
use Rattle.std.proofs.Common.{◌≡◌, ◌≢◌, ◌⊎◌, ℕ, ◌<◌, ◌≤◌, List, length, arith, inl, inr, sym, ap, ◌∙◌, refl, rules}
use Rattle.std.proofs.lemmas.Bool.{cases_order}
use Rattle.bt_frame.specs.declared.schedule.Critical.{Critical}
use Rattle.bt_frame.specs.declared.schedule.Critical.TheVariants.{Row, Column}
use Rattle.bt_frame.specs.declared.schedule.Schedule.{Schedule}
use Rattle.bt_matrix.specs.Traffic.{line_sum, IsBefore, IsHeaviest}
use Rattle.bt_matrix.specs.Good.{IsPermutation, HasPermutations, HasDurations, IsFilled, CarriesAll, total_duration}
use Rattle.bt_demand.proofs.FirstPlaces.{not_all, one_first}
use Rattle.bt_demand.specs.Verdict.{IsFirstWithout, IsEarlier, IsFirstShort, IsVerdict}
use Rattle.bt_demand.specs.declared.verdict.Verdict.{Verdict}
use Rattle.bt_demand.specs.declared.verdict.Verdict.TheVariants.{Good, V1, V2, V3, V4, V8}

-- of two lines one is the first
line_order : (a b : Critical) → (a ≡ b) ⊎ (IsBefore a b ⊎ IsBefore b a)
line_order (Row i) (Row j) = elim (cases_order i.0 j.0) [ inl same ↦ inl (ap (λ n. Row (record { 0 = n })) same) | inr order ↦ inr order ]
line_order (Row _) (Column _) = inr (inl tt)
line_order (Column _) (Row _) = inr (inr tt)
line_order (Column i) (Column j) = elim (cases_order i.0 j.0) [ inl same ↦ inl (ap (λ n. Column (record { 0 = n })) same) | inr order ↦ inr order ]

-- there is one heaviest line, and one greatest sum
pub one_sum : (rows : List (List ℕ)) (a b : Critical) (m n : ℕ) → IsHeaviest rows a m → IsHeaviest rows b n → m ≡ n
one_sum rows a b m n x y =
    let low : line_sum rows a ≤ n = y.greatest a x.on_matrix in
    let high : line_sum rows b ≤ m = x.greatest b y.on_matrix in
    omega (arith, x.reached, y.reached)

pub one_line : (rows : List (List ℕ)) (a b : Critical) (m n : ℕ) → IsHeaviest rows a m → IsHeaviest rows b n → a ≡ b
one_line rows a b m n x y = elim (line_order a b) [
  | inl same ↦ same
  | inr order ↦ elim order [
    | inl before ↦ absurd (omega (arith, one_sum rows a b m n x y, x.reached, y.first a x.on_matrix before))
    | inr after ↦ absurd (omega (arith, one_sum rows a b m n x y, y.reached, x.first b y.on_matrix after))
  ]
]

-- of two places one is the first
pub place_order : (i j up down : ℕ) → ((i ≡ up) × (j ≡ down)) ⊎ (IsEarlier i j up down ⊎ IsEarlier up down i j)
place_order i j up down = elim (cases_order i up) [
  | inl row ↦ elim (cases_order j down) [
    | inl column ↦ inl (row, column)
    | inr order ↦ elim order [ inl before ↦ inr (inl (inr (row, before))) | inr after ↦ inr (inr (inr (sym row, after))) ]
  ]
  | inr order ↦ elim order [ inl before ↦ inr (inl (inl before)) | inr after ↦ inr (inr (inl after)) ]
]

-- there is one first short place
one_short : (rows : List (List ℕ)) (schedule : Schedule) (i j up down : ℕ) → IsFirstShort rows schedule i j → IsFirstShort rows schedule up down → (i ≡ up) × (j ≡ down)
one_short rows schedule i j up down a b = elim (place_order i j up down) [
  | inl same ↦ same
  | inr order ↦ elim order [
    | inl before ↦ absurd (omega (arith, a.short, b.earlier i j a.up_on_matrix a.down_on_matrix before))
    | inr after ↦ absurd (omega (arith, b.short, a.earlier up down b.up_on_matrix b.down_on_matrix after))
  ]
]

-- a mode that is no permutation, and one that is held for no slot
pub no_bad : (rows : List (List ℕ)) (schedule : Schedule) (mode : ℕ) → IsFirstWithout (λ m. IsPermutation (length rows) m.perm) schedule.modes mode → HasPermutations rows schedule → ⊥
no_bad rows schedule mode first all = not_all (λ m. IsPermutation (length rows) m.perm) schedule.modes mode first all

pub no_empty : (schedule : Schedule) (mode : ℕ) → IsFirstWithout (λ m. 0 < m.duration) schedule.modes mode → HasDurations schedule → ⊥
no_empty schedule mode first all = not_all (λ m. 0 < m.duration) schedule.modes mode first all

-- a connection that gets too few slots
no_short : (rows : List (List ℕ)) (schedule : Schedule) (up down : ℕ) → IsFirstShort rows schedule up down → CarriesAll rows schedule → ⊥
no_short rows schedule up down first all = omega (arith, first.short, all up down first.up_on_matrix first.down_on_matrix)

pub no_other_sum : (schedule : Schedule) (total length : ℕ) → total ≡ total_duration schedule.modes → length ≡ schedule.length → total ≢ length → IsFilled schedule → ⊥
no_other_sum schedule total length is_total is_length differ filled = differ (is_total ∙ filled ∙ sym is_length)

-- no two facts of verdicts of different kinds
ruleset kept_apart = (no_bad, no_empty, no_short, no_other_sum)

-- the verdicts are the same
pub the_same : (rows : List (List ℕ)) (schedule : Schedule) (a b : Verdict) → IsVerdict rows schedule a → IsVerdict rows schedule b → a ≡ b
the_same rows schedule Good Good _ _ = refl
the_same rows schedule (V1 m) (V1 n) x y = ap V1 (one_first (λ m. IsPermutation (length rows) m.perm) schedule.modes m n x y)
the_same rows schedule (V2 m) (V2 n) x y = ap V2 (one_first (λ m. 0 < m.duration) schedule.modes m n x.1 y.1)
the_same rows schedule (V3 _ _) (V3 _ _) x y = cc
the_same rows schedule (V4 a m) (V4 b n) x y = let line = one_line rows a b m n x.4 y.4 in let most = one_sum rows a b m n x.4 y.4 in cc
the_same rows schedule (V8 i j _ _) (V8 up down _ _) x y = let place = one_short rows schedule i.0 j.0 up.0 down.0 x.4 y.4 in let up_is : i ≡ up = ap (λ n. record { 0 = n }) place.0 in let down_is : j ≡ down = ap (λ n. record { 0 = n }) place.1 in cc
the_same rows schedule _ _ x y = absurd (search (rules, kept_apart))
