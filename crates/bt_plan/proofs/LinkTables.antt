-- The links of a table: their slots, their order, and what a place that is written changes.
use Rattle.std.proofs.Common.{◌≡◌, ◌≢◌, ℕ, zero, suc, ◌+◌, ◌*◌, ◌/◌, ◌%◌, ◌<◌, ◌≤◌, ◌==◌, ◌&&◌, if◌then◌else◌, Bool, true, false, cond, List, [], ◌∷◌, ◌++◌, length, get_or, set, replicate, take, All, refl, sym, ap, subst, ◌∙◌, arith}
use Rattle.std.proofs.lemmas.Bool.Decides.{nat_tests}
use Rattle.std.proofs.lemmas.List.{length-replicate, length-set, length-take, take_more}
use Rattle.std.proofs.lemmas.List.Elements.{All-nil, All-cons}
use Rattle.std.proofs.lemmas.List.Kept.{AllPairs-cons}
use Rattle.std.proofs.lemmas.List.Sums.{sum_by-cons}
use Rattle.bt_frame.proofs.OneNumber.{same_terminal}
use Rattle.bt_frame.specs.declared.numbers.TermNo.{TermNo}
use Rattle.bt_demand.specs.declared.demand.Link.{Link}
use Rattle.bt_demand.specs.Demand.{ends_of, IsBefore, IsLink, IsDemand, units_where, units_of, Gains}
use Rattle.bt_plan.specs.LinkTable.{sender, receiver, link_at, with_place, links_from, IsPlace, ArePlaces, IsTable}

-- what a place gives to the links that pass a test
abbrev pub share : (TermNo → TermNo → Bool) → ℕ → ℕ → ℕ
share test place units = if test (sender place) (receiver place) then units else 0

nothing : (b : Bool) → cond {A = ℕ} b 0 0 ≡ 0
nothing true = refl
nothing false = refl

-- the first place and the rest
sum-place : (test : TermNo → TermNo → Bool) (place units : ℕ) (rest : List ℕ) → units_where test (links_from place (units ∷ rest)) ≡ share test place units + units_where test (links_from (place + 1) rest)
unfolding links_from with_place
sum-place test place zero rest = omega (arith, nothing (test (sender place) (receiver place)))
sum-place test place (suc n) rest = sum_by-cons (λ (link : Link). if test link.from link.to then link.units else 0) (link_at place (suc n)) (links_from (place + 1) rest)

no_links : (place : ℕ) → links_from place [] ≡ []
unfolding links_from
no_links place = refl

sum-none : (test : TermNo → TermNo → Bool) (place : ℕ) → units_where test (links_from place []) ≡ 0
sum-none test place = ap (units_where test) (no_links place)

-- a place that asked for nothing now asks for units
pub sum-set : (test : TermNo → TermNo → Bool) (place i at units : ℕ) (us : List ℕ) → at ≡ place + i → i < length us → get_or us i 0 ≡ 0
    → units_where test (links_from place (set us i units)) ≡ units_where test (links_from place us) + share test at units
sum-set test place i at units [] is within none = absurd (omega arith)
sum-set test place zero at units (u ∷ us) is within none =
    let here : at ≡ place = omega arith in
    omega (arith, sum-place test place units us, sum-place test place u us, ap (λ (n : ℕ). share test place n) none, nothing (test (sender place) (receiver place)), ap (λ (n : ℕ). share test n units) here)
sum-set test place (suc j) at units (u ∷ us) is within none =
    omega (arith, sum-place test place u (set us j units), sum-place test place u us, sum-set test (place + 1) j at units us (omega arith) (omega arith) none)

-- the test of a link's ends
abbrev pub has_ends : TermNo → TermNo → TermNo → TermNo → Bool
has_ends from to a b = a.0 == from.0 && b.0 == to.0

own_place : (from to : TermNo) (place units : ℕ) → place ≡ from.0 * 64 + to.0 → to.0 < 64 → share (has_ends from to) place units ≡ units
own_place from to place units is small =
    let sends : place / 64 ≡ from.0 = omega arith in
    let receives : place % 64 ≡ to.0 = omega arith in
    let both : has_ends from to (sender place) (receiver place) ≡ true = grind (arith, nat_tests) in
    rw both refl

other_place : (from to : TermNo) (place units : ℕ) → (place ≡ from.0 * 64 + to.0 → ⊥) → to.0 < 64 → share (has_ends from to) place units ≡ 0
other_place from to place units other small =
    let apart : place / 64 ≡ from.0 → place % 64 ≡ to.0 → ⊥ = λ sends receives. other (omega arith) in
    let neither : has_ends from to (sender place) (receiver place) ≡ false = grind (arith, nat_tests, apart) in
    rw neither refl

-- places behind a link's place have none of its slots
units-before : (from to : TermNo) (place : ℕ) (us : List ℕ) → from.0 * 64 + to.0 < place → to.0 < 64 → units_of (links_from place us) from to ≡ 0
units-before from to place [] before small = sum-none (has_ends from to) place
units-before from to place (u ∷ us) before small =
    omega (arith, sum-place (has_ends from to) place u us, other_place from to place u (λ is. absurd (omega arith)) small, units-before from to (place + 1) us (omega arith) small)

-- a link's slots stand at its place
pub units-at : (from to : TermNo) (place i : ℕ) (us : List ℕ) → from.0 * 64 + to.0 ≡ place + i → to.0 < 64 → units_of (links_from place us) from to ≡ get_or us i 0
units-at from to place i [] is small = sum-none (has_ends from to) place
units-at from to place zero (u ∷ us) is small =
    omega (arith, sum-place (has_ends from to) place u us, own_place from to place u (omega arith) small, units-before from to (place + 1) us (omega arith) small)
units-at from to place (suc j) (u ∷ us) is small =
    omega (arith, sum-place (has_ends from to) place u us, other_place from to place u (λ same. absurd (omega arith)) small, units-at from to (place + 1) j us (omega arith) small)

-- the link of a place stands before those of the places behind it
place_before : (p q u v : ℕ) → p < q → IsBefore (ends_of (link_at p u)) (ends_of (link_at q v))
place_before p q u v before = record { from = omega arith; to = λ same. omega arith }

behind : (p q u : ℕ) (us : List ℕ) → p < q → All (λ link. IsBefore (ends_of (link_at p u)) (ends_of link)) (links_from q us)
unfolding links_from with_place
behind p q u [] before = All-nil (λ (link : Link). IsBefore (ends_of (link_at p u)) (ends_of link))
behind p q u (zero ∷ us) before = behind p (q + 1) u us (omega arith)
behind p q u (suc n ∷ us) before =
    All-cons (λ (link : Link). IsBefore (ends_of (link_at p u)) (ends_of link)) (link_at q (suc n)) (links_from (q + 1) us) (place_before p q u (suc n) before) (behind p (q + 1) u us (omega arith))

none_IsDemand : IsDemand []
none_IsDemand = record { ordered = λ i j d lt within. absurd (omega arith); each = All-nil IsLink }

-- the links of a table are a demand
pub places-IsDemand : (place : ℕ) (us : List ℕ) → ArePlaces place us → IsDemand (links_from place us)
unfolding links_from with_place ArePlaces
places-IsDemand place [] are = none_IsDemand
places-IsDemand place (zero ∷ us) are = places-IsDemand (place + 1) us are.1
places-IsDemand place (suc n ∷ us) are =
    let rest = places-IsDemand (place + 1) us are.1 in
    record {
      ordered = AllPairs-cons (λ a b. IsBefore (ends_of a) (ends_of b)) (link_at place (suc n)) (links_from (place + 1) us) (behind place (place + 1) (suc n) us (omega arith)) rest.ordered;
      each = All-cons IsLink (link_at place (suc n)) (links_from (place + 1) us) (record { differ = are.0.differ (omega arith); some = omega arith; few = are.0.few }) rest.each;
    }

-- a place is written
pub set-ArePlaces : (place i at units : ℕ) (us : List ℕ) → at ≡ place + i → IsPlace at units → ArePlaces place us → ArePlaces place (set us i units)
unfolding ArePlaces
set-ArePlaces place i at units [] is one are = tt
set-ArePlaces place zero at units (u ∷ us) is one are =
    let here : at ≡ place = omega arith in
    (subst (λ n. IsPlace n units) here one, are.1)
set-ArePlaces place (suc j) at units (u ∷ us) is one are = (are.0, set-ArePlaces (place + 1) j at units us (omega arith) one are.1)

-- a link's place is one of a table
own_IsPlace : (from to : TermNo) (place units : ℕ) → place ≡ from.0 * 64 + to.0 → to.0 < 64 → from.0 ≢ to.0 → units ≤ 4096 → IsPlace place units
own_IsPlace from to place units is small differ few = record {
  differ = λ some same. differ (omega arith);
  few = omega arith;
}

pub set-IsTable : (places : List ℕ) (place units : ℕ) (from to : TermNo) → place ≡ from.0 * 64 + to.0 → to.0 < 64 → from.0 ≢ to.0 → units ≤ 4096 → IsTable places → IsTable (set places place units)
set-IsTable places place units from to is small differ few table = record {
  size = length-set places place units ∙ table.size;
  each = set-ArePlaces 0 place place units places (omega arith) (own_IsPlace from to place units is small differ few) table.each;
}

-- the link of its ends gains
own_share : (test : TermNo → TermNo → Bool) (from to : TermNo) (place units : ℕ) → place ≡ from.0 * 64 + to.0 → to.0 < 64 → share test place units ≡ (if test from to then units else 0)
own_share test from to place units is small =
    let sends : sender place ≡ from = same_terminal (sender place) from (omega arith) in
    let receives : receiver place ≡ to = same_terminal (receiver place) to (omega arith) in
    ap (λ (a : TermNo). if test a (receiver place) then units else 0) sends ∙ ap (λ (b : TermNo). if test from b then units else 0) receives

pub gains-set : (places : List ℕ) (place units : ℕ) (from to : TermNo) → place ≡ from.0 * 64 + to.0 → to.0 < 64 → place < length places → get_or places place 0 ≡ 0
    → Gains (links_from 0 places) (links_from 0 (set places place units)) from to units
gains-set places place units from to is small within none test =
    omega (arith, sum-set test 0 place place units places (omega arith) within none, own_share test from to place units is small)

-- places that ask for nothing
pub empty-ArePlaces : (place n : ℕ) → ArePlaces place (replicate n 0)
unfolding ArePlaces
empty-ArePlaces place zero = tt
empty-ArePlaces place (suc n) = (record { differ = λ some. absurd (omega arith); few = omega arith }, empty-ArePlaces (place + 1) n)

-- the whole table, where no link was read
pub empty_table : (places : List ℕ) (n : ℕ) → n ≡ 4096 → places ≡ replicate n 0 → IsTable places
empty_table places n is same = record {
  size = ap length same ∙ length-replicate n 0 ∙ is;
  each = subst (ArePlaces 0) (sym same) (empty-ArePlaces 0 n);
}

pub empty-links : (place n : ℕ) → links_from place (replicate n 0) ≡ []
unfolding links_from with_place
empty-links place zero = refl
empty-links place (suc n) = empty-links (place + 1) n

-- so many of a table's places
abbrev pub links_to : List ℕ → ℕ → List Link
links_to places place = links_from 0 (take place places)

-- one place more, which asks for slots
push-link : (place at n : ℕ) (us : List ℕ) → at ≡ place + length us → links_from place (us ++ suc n ∷ []) ≡ links_from place us ++ link_at at (suc n) ∷ []
unfolding links_from with_place
push-link place at n [] is =
    let here : at ≡ place = omega arith in
    ap (λ (k : ℕ). link_at k (suc n) ∷ []) (sym here)
push-link place at n (zero ∷ us) is = push-link (place + 1) at n us (omega arith)
push-link place at n (suc m ∷ us) is = ap (λ (links : List Link). link_at place (suc m) ∷ links) (push-link (place + 1) at n us (omega arith))

-- one place more, which asks for nothing
push-none : (place : ℕ) (us : List ℕ) → links_from place (us ++ zero ∷ []) ≡ links_from place us
unfolding links_from with_place
push-none place [] = refl
push-none place (zero ∷ us) = push-none (place + 1) us
push-none place (suc m ∷ us) = ap (λ (links : List Link). link_at place (suc m) ∷ links) (push-none (place + 1) us)

next : (places : List ℕ) (place units : ℕ) → IsTable places → place < 4096 → units ≡ get_or places place 0 → links_to places (place + 1) ≡ links_from 0 (take place places ++ units ∷ [])
next places place units table within is =
    ap (links_from 0) (take_more places place 0 (omega (arith, table.size)) ∙ ap (λ (n : ℕ). take place places ++ n ∷ []) (sym is))

-- the links with the link of one more place
pub next_place : (places : List ℕ) (place units : ℕ) (links : List Link) → IsTable places → place < 4096 → 0 < units → units ≡ get_or places place 0 → links ≡ links_to places place
    → links ++ link_at place units ∷ [] ≡ links_to places (place + 1)
next_place places place zero links table within some is so_far = absurd (omega arith)
next_place places place (suc n) links table within some is so_far =
    let long : length (take place places) ≡ place = omega (arith, length-take place places, table.size) in
    ap (λ (before : List Link). before ++ link_at place (suc n) ∷ []) so_far
    ∙ sym (next places place (suc n) table within is ∙ push-link 0 place n (take place places) (omega arith))

-- they are a demand: the first places of a table
take-ArePlaces : (place n : ℕ) (us : List ℕ) → ArePlaces place us → ArePlaces place (take n us)
unfolding ArePlaces
take-ArePlaces place zero us are = tt
take-ArePlaces place (suc n) [] are = tt
take-ArePlaces place (suc n) (u ∷ us) are = (are.0, take-ArePlaces (place + 1) n us are.1)

pub next_demand : (places : List ℕ) (place units : ℕ) (links : List Link) → IsTable places → place < 4096 → 0 < units → units ≡ get_or places place 0 → links ≡ links_to places place
    → IsDemand (links ++ link_at place units ∷ [])
next_demand places place units links table within some is so_far =
    subst IsDemand (sym (next_place places place units links table within some is so_far))
    (places-IsDemand 0 (take (place + 1) places) (take-ArePlaces 0 (place + 1) places table.each))

-- and without one, where it asks for nothing
pub same_place : (places : List ℕ) (place units : ℕ) (links : List Link) → IsTable places → place < 4096 → units ≡ get_or places place 0 → units ≡ 0 → links ≡ links_to places place → links ≡ links_to places (place + 1)
same_place places place zero links table within is none so_far =
    so_far ∙ sym (next places place zero table within is ∙ push-none 0 (take place places))
same_place places place (suc n) links table within is none so_far = absurd (omega arith)

pub no_place : (places : List ℕ) → links_to places 0 ≡ []
no_place places = no_links 0
