-- A schedule has at most one verdict for a matrix and a number of connections at once.
use Rattle.std.proofs.Common.{◌≡◌, ◌≢◌, ℕ, ◌<◌, ◌≤◌, List, length, arith, inl, inr, sym, ap, ◌∙◌, refl, rules}
use Rattle.bt_demand.specs.Verdict.{IsFirstWithout}
use Rattle.bt_demand.proofs.FirstPlaces.{not_all, one_first}
use Rattle.bt_demand.proofs.OneVerdict.{place_order}
use Rattle.bt_trans.specs.declared.part.PartSchedule.{PartSchedule}
use Rattle.bt_trans.specs.declared.verdict.PartVerdict.{PartVerdict}
use Rattle.bt_trans.specs.declared.verdict.PartVerdict.TheVariants.{Good, Q1, Q2, Q3, Q4, Q5, Q6}
use Rattle.bt_trans.specs.Part.{IsPartSwitching, connections, part_duration, HasSwitchings, HasFew, HasDurations, IsFilled, CarriesAll}
use Rattle.bt_trans.specs.PartVerdict.{IsFirstShort, IsPartVerdict}
use Rattle.bt_trans.proofs.LeastLengths.{one_least}

-- there is one first short place
one_short : (rows : List (List ℕ)) (schedule : PartSchedule) (i j up down : ℕ) → IsFirstShort rows schedule i j → IsFirstShort rows schedule up down → (i ≡ up) × (j ≡ down)
one_short rows schedule i j up down a b = elim (place_order i j up down) [
  | inl same ↦ same
  | inr order ↦ elim order [
    | inl before ↦ absurd (omega (arith, a.short, b.earlier i j a.up_on_matrix a.down_on_matrix before))
    | inr after ↦ absurd (omega (arith, b.short, a.earlier up down b.up_on_matrix b.down_on_matrix after))
  ]
]

-- a mode that is no switching, one with too many connections, and one that is held for no slot
no_bad : (rows : List (List ℕ)) (schedule : PartSchedule) (mode : ℕ) → IsFirstWithout (λ m. IsPartSwitching (length rows) m.perm) schedule.modes mode → HasSwitchings rows schedule → ⊥
no_bad rows schedule mode first all = not_all (λ m. IsPartSwitching (length rows) m.perm) schedule.modes mode first all

no_crowded : (k : ℕ) (schedule : PartSchedule) (mode : ℕ) → IsFirstWithout (λ m. connections m.perm ≤ k) schedule.modes mode → HasFew k schedule → ⊥
no_crowded k schedule mode first all = not_all (λ m. connections m.perm ≤ k) schedule.modes mode first all

no_empty : (schedule : PartSchedule) (mode : ℕ) → IsFirstWithout (λ m. 0 < m.duration) schedule.modes mode → HasDurations schedule → ⊥
no_empty schedule mode first all = not_all (λ m. 0 < m.duration) schedule.modes mode first all

no_other_sum : (schedule : PartSchedule) (total length : ℕ) → total ≡ part_duration schedule.modes → length ≡ schedule.length → total ≢ length → IsFilled schedule → ⊥
no_other_sum schedule total length is_total is_length differ filled = differ (is_total ∙ filled ∙ sym is_length)

-- a connection that gets too few slots
no_short : (rows : List (List ℕ)) (schedule : PartSchedule) (up down : ℕ) → IsFirstShort rows schedule up down → CarriesAll rows schedule → ⊥
no_short rows schedule up down first all = omega (arith, first.short, all up down first.up_on_matrix first.down_on_matrix)

-- no two facts of verdicts of different kinds
ruleset kept_apart = (no_bad, no_crowded, no_empty, no_other_sum, no_short)

-- the verdicts are the same
pub the_same : (rows : List (List ℕ)) (k : ℕ) (schedule : PartSchedule) (a b : PartVerdict) → IsPartVerdict rows k schedule a → IsPartVerdict rows k schedule b → a ≡ b
the_same rows k schedule Good Good _ _ = refl
the_same rows k schedule (Q1 m) (Q1 n) x y = ap Q1 (one_first (λ m. IsPartSwitching (length rows) m.perm) schedule.modes m n x y)
the_same rows k schedule (Q2 m) (Q2 n) x y = ap Q2 (one_first (λ m. connections m.perm ≤ k) schedule.modes m n x.1 y.1)
the_same rows k schedule (Q3 m) (Q3 n) x y = ap Q3 (one_first (λ m. 0 < m.duration) schedule.modes m n x.2 y.2)
the_same rows k schedule (Q4 _ _) (Q4 _ _) x y = cc
the_same rows k schedule (Q5 m) (Q5 n) x y = ap Q5 (one_least rows k m n x.5.0 y.5.0 x.5.1 y.5.1)
the_same rows k schedule (Q6 i j _ _) (Q6 up down _ _) x y = let place = one_short rows schedule i.0 j.0 up.0 down.0 x.5 y.5 in let up_is : i ≡ up = ap (λ n. record { 0 = n }) place.0 in let down_is : j ≡ down = ap (λ n. record { 0 = n }) place.1 in cc
the_same rows k schedule _ _ x y = absurd (search (rules, kept_apart))
