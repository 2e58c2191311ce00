-- The triples that bursts spell: what holds of all of them, when none meet, and how often a link occurs.
use Rattle.std.proofs.Common.{◌≡◌, ℕ, suc, ◌+◌, ◌-◌, ◌<◌, ◌≤◌, ◌==◌, ◌&&◌, if◌then◌else◌, Bool, true, false, List, [], ◌∷◌, length, get_or, sum_by, All, AllPairs, refl, sym, ap, ◌∙◌, subst, arith, inl, inr}
use Rattle.std.specs.List.{range_with_len}
use Rattle.std.proofs.lemmas.Bool.{cases_lt}
use Rattle.std.proofs.lemmas.List.{take_all}
use Rattle.std.proofs.lemmas.List.Elements.{All-nil, All-append, All-cons, All-head, All-tail, All-map}
use Rattle.std.proofs.lemmas.List.FromFn.{length-range_with_len, length-map-range_with_len, get_or-range_with_len, get_or-map-range_with_len}
use Rattle.std.proofs.lemmas.List.Kept.{AllPairs-cons}
use Rattle.std.proofs.lemmas.List.Sums.{sum_by-cons, sum_by-append, sum_by_more_le}
use Rattle.std.proofs.Math.ListN.{get_or-eq_default}
use Rattle.bt_frame.specs.declared.mode.Mode.{Mode}
use Rattle.bt_frame.specs.declared.numbers.TermNo.{TermNo}
use Rattle.bt_net.specs.Network.{Net}
use Rattle.bt_matrix.specs.Good.{total_duration}
use Rattle.bt_demand.specs.declared.burst.Burst.{Burst}
use Rattle.bt_demand.specs.Burst.{Covers}
use Rattle.bt_demand.specs.Plan.{Triple, triples_of, all_triples, occurrences, Meet, IsHeld}
use Rattle.bt_demand.specs.Apart.{Collide, AreApart, slots_sent}
use Rattle.bt_frame.proofs.Counts.{sum_by-map, sum_by-zeros}
use Rattle.bt_frame.proofs.Pairs.{AllPairs-append, All-across, AllPairs-second, All-first, All-second}

-- the triple of a burst in a slot
abbrev pub triple_in : Burst → ℕ → Triple
triple_in burst slot = record { slot = slot; from = burst.from; to = burst.to }

-- what holds in each slot of a burst holds of its triples
All-triples_of : (P : Triple → Type 0) (burst : Burst) → ((slot : ℕ) → Covers burst slot → P (triple_in burst slot)) → All P (triples_of burst)
All-triples_of P burst each = All-map P (triple_in burst) (range_with_len burst.start burst.length) (λ k d within.
    let below : k < burst.length = omega (arith, length-range_with_len burst.start burst.length) in
    let at = get_or-range_with_len burst.start burst.length k d below in
    each (get_or (range_with_len burst.start burst.length) k d) (record { from_start = omega (arith, at); before_end = omega (arith, at) }))

-- and of the triples of all bursts, where it holds of those of each
pub All-all_triples : (P : Triple → Type 0) (bursts : List Burst) → All (λ burst. (slot : ℕ) → Covers burst slot → P (triple_in burst slot)) bursts
    → All P (all_triples bursts)
All-all_triples P [] each = All-nil P
All-all_triples P (burst ∷ bursts) each =
    let Each = λ (b : Burst). (slot : ℕ) → Covers b slot → P (triple_in b slot) in
    All-append P (triples_of burst) (all_triples bursts) (All-triples_of P burst (All-head Each burst bursts each))
    (All-all_triples P bursts (All-tail Each burst bursts each))

-- what holds of the triples of a burst holds in each of its slots
in_each_slot : (P : Triple → Type 0) (burst : Burst) → All P (triples_of burst) → (slot : ℕ) → Covers burst slot → P (triple_in burst slot)
in_each_slot P burst all slot covers =
    let place = slot - burst.start in
    let long = length-map-range_with_len (triple_in burst) burst.start burst.length in
    let below : place < burst.length = omega (arith, covers.from_start, covers.before_end) in
    let at = get_or-map-range_with_len (triple_in burst) burst.start burst.length place slot (triple_in burst slot) below (omega (arith, covers.from_start)) in
    subst P at (all place (triple_in burst slot) (omega (arith, long)))

pub in_each_burst : (P : Triple → Type 0) (bursts : List Burst) → All P (all_triples bursts)
    → All (λ burst. (slot : ℕ) → Covers burst slot → P (triple_in burst slot)) bursts
in_each_burst P [] all = All-nil (λ (b : Burst). (slot : ℕ) → Covers b slot → P (triple_in b slot))
in_each_burst P (burst ∷ bursts) all =
    All-cons (λ (b : Burst). (slot : ℕ) → Covers b slot → P (triple_in b slot)) burst bursts
    (in_each_slot P burst (All-first P (triples_of burst) (all_triples bursts) all))
    (in_each_burst P bursts (All-second P (triples_of burst) (all_triples bursts) all))

-- the triples of one burst lie in different slots
of_one_burst : (net : Net) (burst : Burst) → AllPairs (λ a b. ¬ (Meet net a b)) (triples_of burst)
of_one_burst net burst i j d lt within meet =
    let below : j < burst.length = omega (arith, length-map-range_with_len (triple_in burst) burst.start burst.length) in
    let first = get_or-map-range_with_len (triple_in burst) burst.start burst.length i (burst.start + i) d (omega arith) refl in
    let second = get_or-map-range_with_len (triple_in burst) burst.start burst.length j (burst.start + j) d below refl in
    omega (arith, meet.slot, ap (λ (t : Triple). t.slot) first, ap (λ (t : Triple). t.slot) second)

-- no two triples of bursts meet, where no two bursts do
pub triples_apart : (net : Net) (bursts : List Burst) → AreApart net bursts → AllPairs (λ a b. ¬ (Meet net a b)) (all_triples bursts)
triples_apart net [] apart = λ i j d lt within. absurd (omega arith)
triples_apart net (burst ∷ bursts) apart =
    let Apart = λ (a b : Triple). ¬ (Meet net a b) in
    AllPairs-append Apart (triples_of burst) (all_triples bursts) (of_one_burst net burst)
    (triples_apart net bursts (λ i j d lt within. apart (suc i) (suc j) d (omega arith) (omega arith)))
    (All-triples_of (λ t. All (Apart t) (all_triples bursts)) burst (λ slot covers.
    All-all_triples (Apart (triple_in burst slot)) bursts (λ k d within other covers_too meet.
    apart 0 (suc k) d (omega arith) (omega arith) (record {
      slot = slot;
      first = covers;
      second = subst (Covers (get_or bursts k d)) (sym meet.slot) covers_too;
      beam = meet.beam;
    }))))

-- and no two bursts meet, where no two of their triples do
pub bursts_apart : (net : Net) (bursts : List Burst) → AllPairs (λ a b. ¬ (Meet net a b)) (all_triples bursts) → AreApart net bursts
bursts_apart net [] apart = λ i j d lt within. absurd (omega arith)
bursts_apart net (burst ∷ bursts) apart =
    let Apart = λ (a b : Triple). ¬ (Meet net a b) in
    let across = All-across Apart (triples_of burst) (all_triples bursts) apart in
    AllPairs-cons (λ (a b : Burst). ¬ (Collide net a b)) burst bursts
    (λ k d within collide.
    let rest = in_each_slot (λ t. All (Apart t) (all_triples bursts)) burst across collide.slot collide.first in
    in_each_burst (Apart (triple_in burst collide.slot)) bursts rest k d within collide.slot collide.second (record { slot = refl; beam = collide.beam }))
    (bursts_apart net bursts (AllPairs-second Apart (triples_of burst) (all_triples bursts) apart))

-- so many ones, or nothing
sum_by-ones : {X : Type 0} (xs : List X) → sum_by (λ (x : X). 1) xs ≡ length xs
sum_by-ones [] = refl
sum_by-ones (x ∷ xs) = omega (arith, sum_by-cons (λ x. 1) x xs, sum_by-ones xs)

if_ones : {X : Type 0} (test : Bool) (xs : List X) → sum_by (λ (x : X). if test then 1 else 0) xs ≡ (if test then length xs else 0)
if_ones true xs = sum_by-ones xs
if_ones false xs = sum_by-zeros xs

-- a link occurs in a burst of its own as often as that has slots
occurrences-burst : (burst : Burst) (from to : TermNo)
    → occurrences (triples_of burst) from to ≡ (if burst.from.0 == from.0 && burst.to.0 == to.0 then burst.length else 0)
occurrences-burst burst from to =
    let test = burst.from.0 == from.0 && burst.to.0 == to.0 in
    let slots = range_with_len burst.start burst.length in
    sum_by-map (λ (t : Triple). if t.from.0 == from.0 && t.to.0 == to.0 then 1 else 0) (triple_in burst) slots
    ∙ if_ones test slots
    ∙ ap (λ (n : ℕ). if test then n else 0) (length-range_with_len burst.start burst.length)

-- a link occurs among the triples of all bursts as often as its bursts have slots
pub occurrences-all_triples : (bursts : List Burst) (from to : TermNo) → occurrences (all_triples bursts) from to ≡ slots_sent bursts from to
occurrences-all_triples [] from to = refl
occurrences-all_triples (burst ∷ bursts) from to =
    let here = λ (t : Triple). let one : ℕ = if t.from.0 == from.0 && t.to.0 == to.0 then 1 else 0 in one in
    let part = λ (b : Burst). let slots : ℕ = if b.from.0 == from.0 && b.to.0 == to.0 then b.length else 0 in slots in
    omega (arith, sum_by-append here (triples_of burst) (all_triples bursts), occurrences-burst burst from to, occurrences-all_triples bursts from to, sum_by-cons part burst bursts)

-- a burst that lies within a mode ends before all modes do
pub held_within : (net : Net) (modes : List Mode) (burst : Burst) → IsHeld net modes burst → burst.start + burst.length ≤ total_duration modes
held_within net modes burst held =
    let mode : Mode = record { duration = 0; perm = [] } in
    let ends = (held.within.connected mode).0 in
    elim (cases_lt held.place (length modes)) [
      | inl inside ↦ omega (arith, ends, sum_by_more_le (λ (m : Mode). m.duration) modes held.place mode inside)
      | inr past ↦ omega (arith, ends, ap total_duration (take_all held.place modes past), ap (λ (m : Mode). m.duration) (get_or-eq_default modes mode past))
    ]
