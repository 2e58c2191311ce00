-- How many lanes stand before that of a beam.
use Rattle.std.proofs.Common.{refl, arith, ◌≡◌, ◌⊎◌, inl, inr, ◌-◌, ℕ, zero, suc, ◌+◌, ◌<◌, ◌≤◌, ◌==◌, Bool, true, false, if◌then◌else◌, List, [], ◌∷◌, length, get_or, set, map, replicate, ap, sym, ◌∙◌}
use Rattle.std.specs.List.{range_with_len}
use Rattle.std.proofs.lemmas.Bool.{eqb-true, eq-eqb}
use Rattle.std.proofs.lemmas.Grind.{get_or-set_at}
use Rattle.std.proofs.lemmas.List.{ext_get_or, get_or-set_other}
use Rattle.std.proofs.lemmas.List.FromFn.{get_or-map-range_with_len, length-map-range_with_len}
use Rattle.bt_plan_chart.specs.Scale.{has_lanes, lanes_before, places_of}

-- no lane stands before that of the first beam
pub none_before : (drawn : List Bool) → lanes_before drawn 0 ≡ 0
unfolding lanes_before
none_before drawn = refl

-- the lanes before one beam more
next_before : (drawn : List Bool) (beam : ℕ) → lanes_before drawn (suc beam) ≡ lanes_before drawn beam + (if has_lanes drawn beam then 1 else 0)
unfolding lanes_before
next_before drawn beam = refl

-- a lane more or none
at_most_one : (test : Bool) → (if test then 1 else 0) ≤ 1
at_most_one true = omega arith
at_most_one false = omega arith

pub few_before : (drawn : List Bool) (beam : ℕ) → lanes_before drawn beam ≤ beam
few_before drawn zero = let none = none_before drawn in omega (arith, none)
few_before drawn (suc beam) =
    let before = few_before drawn beam in
    let more = at_most_one (has_lanes drawn beam) in
    let next = next_before drawn beam in
    omega (arith, before, more, next)

no_fewer : (drawn : List Bool) (a more : ℕ) → lanes_before drawn a ≤ lanes_before drawn (more + a)
no_fewer drawn a zero = let same : lanes_before drawn (0 + a) ≡ lanes_before drawn a = ap (lanes_before drawn) (omega arith) in omega (arith, same)
no_fewer drawn a (suc more) =
    let before = no_fewer drawn a more in
    let next = next_before drawn (more + a) in
    let same : lanes_before drawn (suc more + a) ≡ lanes_before drawn (suc (more + a)) = ap (lanes_before drawn) (omega arith) in
    omega (arith, before, next, same)

-- the lane of a beam stands before the lanes of those behind it
pub in_order : (drawn : List Bool) (a b : ℕ) → a < b → has_lanes drawn a ≡ true → lanes_before drawn a < lanes_before drawn b
in_order drawn a b before has =
    let next : lanes_before drawn (suc a) ≡ lanes_before drawn a + 1 = next_before drawn a ∙ ap (λ test. lanes_before drawn a + (if test then 1 else 0)) has in
    let more = no_fewer drawn (suc a) (b - suc a) in
    let same : lanes_before drawn ((b - suc a) + suc a) ≡ lanes_before drawn b = ap (lanes_before drawn) (omega (arith, before)) in
    omega (arith, next, more, same)

-- two numbers are one, or one of them is less
either_way : (a b : ℕ) → ((a < b) ⊎ (b < a)) ⊎ (a ≡ b)
either_way zero zero = inr refl
either_way zero (suc b) = inl (inl (omega arith))
either_way (suc a) zero = inl (inr (omega arith))
either_way (suc a) (suc b) = elim (either_way a b) [
  | inl (inl before) ↦ inl (inl (omega (arith, before)))
  | inl (inr behind) ↦ inl (inr (omega (arith, behind)))
  | inr is ↦ inr (ap suc is)
]

-- two beams with lanes at one place are one
pub one_place : (drawn : List Bool) (a b : ℕ) → has_lanes drawn a ≡ true → has_lanes drawn b ≡ true → lanes_before drawn a ≡ lanes_before drawn b → a ≡ b
one_place drawn a b a_has b_has same = elim (either_way a b) [
  | inl (inl before) ↦ let less = in_order drawn a b before a_has in absurd (omega (arith, less, same))
  | inl (inr behind) ↦ let less = in_order drawn b a behind b_has in absurd (omega (arith, less, same))
  | inr is ↦ is
]

-- no beam stands before the first one
pub first_place : (drawn : List Bool) (beam : ℕ) → beam ≤ 0 → get_or (replicate 33 0) beam 0 ≡ lanes_before drawn beam
first_place drawn zero below = sym (none_before drawn)
first_place drawn (suc beam) below = absurd (omega (arith, below))

-- a read within a list is the same whatever is read past it
pub same_read : {A : Type 0} (xs : List A) (i : ℕ) (d e : A) → i < length xs → get_or xs i d ≡ get_or xs i e
same_read [] i d e within = absurd (omega (arith, within))
same_read (x ∷ xs) zero d e within = refl
same_read (x ∷ xs) (suc i) d e within = same_read xs i d e (omega (arith, within))

-- the lanes before one beam more
pub one_more_beam : (drawn : List Bool) (beam lanes one : ℕ) → beam < length drawn → lanes ≡ lanes_before drawn beam → one ≡ (if get_or drawn beam false then 1 else 0) → lanes + one ≡ lanes_before drawn (beam + 1)
one_more_beam drawn beam lanes one within before is =
    let same : get_or drawn beam false ≡ get_or drawn beam true = same_read drawn beam false true within in
    let first : lanes + one ≡ lanes_before drawn beam + one = ap (λ n. n + one) before in
    let second : one ≡ (if has_lanes drawn beam then 1 else 0) = is ∙ ap (λ test. if test then 1 else 0) same in
    let next = next_before drawn beam in
    let more : lanes_before drawn (beam + 1) ≡ lanes_before drawn (suc beam) = ap (lanes_before drawn) (omega arith) in
    first ∙ ap (λ n. lanes_before drawn beam + n) second ∙ sym next ∙ sym more

-- a place of the table that is set, or another
at_place : (test : Bool) (drawn : List Bool) (table : List ℕ) (place lanes b : ℕ) → (place == b) ≡ test → place < length table → lanes ≡ lanes_before drawn place
    → ((b ≡ place → ⊥) → get_or table b 0 ≡ lanes_before drawn b) → get_or (set table place lanes) b 0 ≡ lanes_before drawn b
at_place true drawn table place lanes b told within is others =
    let same : place ≡ b = eqb-true place b told in
    get_or-set_at table place b lanes 0 (sym same) within ∙ is ∙ ap (lanes_before drawn) same
at_place false drawn table place lanes b told within is others =
    let other : b ≡ place → ⊥ = λ same. let alike : (place == b) ≡ true = eq-eqb place b (sym same) in cc in
    get_or-set_other table place b lanes 0 other ∙ others other

-- the table with one beam more
pub one_more_place : (drawn : List Bool) (table : List ℕ) (beam lanes : ℕ) → beam + 1 < length table → ((b : ℕ) → b ≤ beam → get_or table b 0 ≡ lanes_before drawn b) → lanes ≡ lanes_before drawn (beam + 1)
    → (b : ℕ) → b ≤ beam + 1 → get_or (set table (beam + 1) lanes) b 0 ≡ lanes_before drawn b
one_more_place drawn table beam lanes within each is b below = at_place (beam + 1 == b) drawn table (beam + 1) lanes b refl within is (λ other. each b (omega (arith, below, other)))

-- what the table of places has
pub places_read : (drawn : List Bool) (beam : ℕ) → beam < 33 → get_or (places_of drawn) beam 0 ≡ lanes_before drawn beam
unfolding places_of
places_read drawn beam within = get_or-map-range_with_len (lanes_before drawn) 0 33 beam beam 0 within (omega arith)

-- where a table of so many places has the lanes before each beam, it is that of the places
pub table_of : (drawn : List Bool) (table : List ℕ) → length table ≡ 33 → ((beam : ℕ) → beam ≤ 32 → get_or table beam 0 ≡ lanes_before drawn beam) → table ≡ places_of drawn
unfolding places_of
table_of drawn table long each = ext_get_or 0 table (map (lanes_before drawn) (range_with_len 0 33))
    (long ∙ sym (length-map-range_with_len (lanes_before drawn) 0 33))
    (λ beam within. each beam (omega (arith, within, long)) ∙ sym (places_read drawn beam (omega (arith, within, long))))
