-- Links in order: what a search among them finds, and what an edit at that place leaves.
use Rattle.std.proofs.Common.{◌≡◌, ◌≢◌, ℕ, zero, suc, ◌+◌, ◌-◌, ◌<◌, ◌≤◌, ◌==◌, ◌&&◌, if◌then◌else◌, Bool, true, false, List, [], ◌∷◌, length, take, drop, get_or, slice_set, All, AllPairs, Result, Ok, Err, IfOk, IfErr, refl, sym, ap, ◌∙◌, subst, arith, length-set, get_or-set_same, get_or-set_other, ⊎_elim}
use Rattle.std.specs.declared.cmp.Ordering.{Ordering}
use Rattle.std.specs.declared.cmp.Ordering.TheVariants.{Less, Equal, Greater}
use Rattle.std.specs.List.{insert, remove}
use Rattle.std.specs.List.Sorted.{IsSearchInRange, IsBinarySearchResult, IsNonDecreasingBy}
use Rattle.std.specs.Ordering.{nat_cmp, ordering_then, ordering_index, MatchOrdering}
use Rattle.std.proofs.lemmas.Bool.{cases_eq}
use Rattle.std.proofs.lemmas.Bool.Decides.{nat_tests}
use Rattle.std.proofs.lemmas.Cmp.{ranked}
use Rattle.std.proofs.lemmas.List.{get_or-take, get_or-drop, length-take, length-drop, get_or_read}
use Rattle.std.proofs.lemmas.List.Elements.{All-nil, All-cons, All-append, All-take, All-drop, All-set}
use Rattle.std.proofs.lemmas.List.Kept.{AllPairs-cons}
use Rattle.std.proofs.lemmas.List.Quantifiers.{all_pairs_remove}
use Rattle.std.proofs.lemmas.List.Sums.{sum_by-take-drop, sum_by-drop_more, sum_by-set}
use Rattle.bt_frame.proofs.Counts.{sum_by-none}
use Rattle.bt_frame.specs.declared.numbers.TermNo.{TermNo}
use Rattle.bt_demand.specs.declared.demand.Link.{Link}
use Rattle.bt_demand.specs.Demand.{LinkEnds, ends_of, IsBefore, IsLink, IsDemand, units_of, Gains, IsAt, IsGapFor}

-- the order of ends as the code compares them
abbrev pub ends_cmp : LinkEnds → LinkEnds → Ordering
ends_cmp a b = ordering_then (nat_cmp a.0.0 b.0.0) (nat_cmp a.1.0 b.1.0)

-- what a comparison of ends says
abbrev pub Says : Ordering → LinkEnds → LinkEnds → Type 0
Says order a b = MatchOrdering order (IsBefore a b) (a ≡ b) (IsBefore b a)

-- ends with the same numbers are the same
same_ends : (a b : LinkEnds) → a.0.0 ≡ b.0.0 → a.1.0 ≡ b.1.0 → a ≡ b
same_ends a b from to =
    ap (λ (n : ℕ). let ends : LinkEnds = (record { 0 = n }, a.1) in ends) from ∙ ap (λ (n : ℕ). let ends : LinkEnds = (b.0, record { 0 = n }) in ends) to

says_by : (a b : LinkEnds) (r s : Ordering) → r ≡ nat_cmp a.0.0 b.0.0 → s ≡ nat_cmp a.1.0 b.1.0 → Says (ordering_then r s) a b
says_by a b Less s from to =
    let less : a.0.0 < b.0.0 = ranked _ _ Less from in
    record { from = omega arith; to = λ same. absurd (omega arith) }
says_by a b Greater s from to =
    let more : b.0.0 < a.0.0 = ranked _ _ Greater from in
    record { from = omega arith; to = λ same. absurd (omega arith) }
says_by a b Equal Less from to =
    let same : a.0.0 ≡ b.0.0 = ranked _ _ Equal from in
    let less : a.1.0 < b.1.0 = ranked _ _ Less to in
    record { from = omega arith; to = λ _. less }
says_by a b Equal Greater from to =
    let same : a.0.0 ≡ b.0.0 = ranked _ _ Equal from in
    let more : b.1.0 < a.1.0 = ranked _ _ Greater to in
    record { from = omega arith; to = λ _. more }
says_by a b Equal Equal from to = same_ends a b (ranked _ _ Equal from) (ranked _ _ Equal to)

-- each comparison says how the ends stand
pub says : (a b : LinkEnds) → Says (ends_cmp a b) a b
says a b = says_by a b _ _ refl refl

-- the order goes on
pub before_trans : (a b c : LinkEnds) → IsBefore a b → IsBefore b c → IsBefore a c
before_trans a b c ab bc = record {
  from = omega (arith, ab.from, bc.from);
  to = λ same.
      let first : a.0.0 ≡ b.0.0 = omega (arith, ab.from, bc.from) in
      let second : b.0.0 ≡ c.0.0 = omega (arith, ab.from, bc.from) in
      omega (arith, ab.to first, bc.to second);
}

-- and comes back to none
pub not_before_itself : (a : LinkEnds) → IsBefore a a → ⊥
not_before_itself a before = omega (arith, before.to refl)

-- Comparisons with the same ends rise along the order.
rises_by : (a b e : LinkEnds) (o p : Ordering) → Says o a e → Says p b e → IsBefore a b → ordering_index o ≤ ordering_index p
rises_by a b e Less Less first second before = omega arith
rises_by a b e Less Equal first second before = omega arith
rises_by a b e Less Greater first second before = omega arith
rises_by a b e Equal Less first second before =
    absurd (not_before_itself e (before_trans e b e (subst (λ (x : LinkEnds). IsBefore x b) first before) second))
rises_by a b e Equal Equal first second before = omega arith
rises_by a b e Equal Greater first second before = omega arith
rises_by a b e Greater Less first second before = absurd (not_before_itself e (before_trans e b e (before_trans e a b first before) second))
rises_by a b e Greater Equal first second before =
    absurd (not_before_itself e (before_trans e a e first (subst (λ (x : LinkEnds). IsBefore a x) second before)))
rises_by a b e Greater Greater first second before = omega arith

comparisons_rise : (links : List Link) (e : LinkEnds) → IsDemand links → IsNonDecreasingBy (λ link. ordering_index (ends_cmp (ends_of link) e)) links
comparisons_rise links e is i j d le within =
    let index = λ (link : Link). ordering_index (ends_cmp (ends_of link) e) in
    ⊎_elim
    (λ (same : i ≡ j). let along = ap (λ (k : ℕ). index (get_or links k d)) same in omega (arith, along))
    (λ (other : i ≡ j → ⊥).
    rises_by (ends_of (get_or links i d)) (ends_of (get_or links j d)) e _ _ (says _ e) (says _ e) (is.ordered i j d (omega arith) within))
    (cases_eq i j)

-- a search by the ends of the links ends at the link, or at the gap for it
pub searched : (links : List Link) (e : LinkEnds) (r : Result ℕ ℕ) → IsDemand links → IsSearchInRange r (length links)
    → IsBinarySearchResult (λ link. ends_cmp (ends_of link) e) links r → record { found : IfOk r (IsAt links e); absent : IfErr r (IsGapFor links e) }
searched links e (Ok place) is in_range equal = record {
  found = record { in_range = in_range; has_ends = λ d. subst (λ (o : Ordering). Says o (ends_of (get_or links place d)) e) (equal d) (says _ e) };
  absent = tt;
}
searched links e (Err place) is in_range parted =
    let parts = parted (comparisons_rise links e is) in
    record {
      found = tt;
      absent = record {
        in_range = in_range;
        before = λ k d within.
            let below : k < place = omega (arith, length-take place links) in
            rw (get_or-take place links k d below) (subst (λ (o : Ordering). Says o (ends_of (get_or links k d)) e) (parts.0 k d (omega arith) below) (says _ e));
        after = λ k d within.
            let there : place + k < length links = omega (arith, length-drop place links) in
            rw (get_or-drop place links k d) (subst (λ (o : Ordering). Says o (ends_of (get_or links (place + k) d)) e) (parts.1 (place + k) d (omega arith) there) (says _ e));
      };
    }

-- the slots of a link, if it has these ends
abbrev pub units_at : LinkEnds → Link → ℕ
units_at e link = if link.from.0 == e.0.0 && link.to.0 == e.1.0 then link.units else 0

units_at-before : (link : Link) (e : LinkEnds) → IsBefore (ends_of link) e → units_at e link ≡ 0
units_at-before link e before = grind (arith, nat_tests, before.from, before.to)

pub units_at-after : (link : Link) (e : LinkEnds) → IsBefore e (ends_of link) → units_at e link ≡ 0
units_at-after link e after = grind (arith, nat_tests, after.from, after.to)

pub units_at-same : (link : Link) (e : LinkEnds) → ends_of link ≡ e → units_at e link ≡ link.units
units_at-same link e same =
    let from = ap (λ (x : LinkEnds). x.0.0) same in let to = ap (λ (x : LinkEnds). x.1.0) same in grind (arith, nat_tests, from, to)

-- a link that would stand in a gap has no slots
pub units_of_gap : (links : List Link) (from to : TermNo) (place : ℕ) → IsGapFor links (from, to) place → units_of links from to ≡ 0
units_of_gap links from to place gap =
    let e : LinkEnds = (from, to) in
    let before = sum_by-none (units_at e) (take place links) (λ k d within. units_at-before _ e (gap.before k d within)) in
    let after = sum_by-none (units_at e) (drop place links) (λ k d within. units_at-after _ e (gap.after k d within)) in
    omega (arith, before, after, sum_by-take-drop (units_at e) links place)

-- a link has the slots that stand at its place
pub units_of_at : (links : List Link) (from to : TermNo) (place : ℕ) (d : Link) → IsDemand links → IsAt links (from, to) place
    → units_of links from to ≡ (get_or links place d).units
units_of_at links from to place d is at =
    let e : LinkEnds = (from, to) in
    let here = λ (d : Link). at.has_ends d in
    let before = sum_by-none (units_at e) (take place links) (λ k b within.
    let below : k < place = omega (arith, length-take place links) in
    rw (get_or-take place links k b below) (units_at-before _ e (subst (λ (x : LinkEnds). IsBefore (ends_of (get_or links k b)) x) (here b) (is.ordered k place b below at.in_range)))) in
    let after = sum_by-none (units_at e) (drop (place + 1) links) (λ k b within.
    let there : place + 1 + k < length links = omega (arith, length-drop (place + 1) links) in
    rw (get_or-drop (place + 1) links k b) (units_at-after _ e (subst (λ (x : LinkEnds). IsBefore x (ends_of (get_or links (place + 1 + k) b))) (here b) (is.ordered place (place + 1 + k) b (omega arith) there)))) in
    omega (arith, before, after, sum_by-take-drop (units_at e) links place, sum_by-drop_more (units_at e) links place d at.in_range, units_at-same (get_or links place d) e (here d))

-- an insert between what stands before and what stands after keeps an order
insert_pairs : {X : Type 0} (R : X → X → Type 0) (xs : List X) (i : ℕ) (y : X) → AllPairs R xs → All (λ x. R x y) (take i xs) → All (R y) (drop i xs)
    → AllPairs R (insert xs i y)
insert_pairs R xs zero y pairs before after = AllPairs-cons R y xs after pairs
insert_pairs R [] (suc i) y pairs before after = AllPairs-cons R y [] (All-nil (R y)) pairs
insert_pairs R (x ∷ xs) (suc i) y pairs before after =
    let behind : All (R x) xs = λ k d within. pairs 0 (suc k) d (omega arith) (omega arith) in
    let first : R x y = before 0 x (omega arith) in
    AllPairs-cons R x (insert xs i y)
    (All-append (R x) (take i xs) (y ∷ drop i xs) (All-take (R x) i xs behind) (All-cons (R x) y (drop i xs) first (All-drop (R x) i xs behind)))
    (insert_pairs R xs i y (λ j k d lt within. pairs (suc j) (suc k) d (omega arith) (omega arith)) (λ k d within. before (suc k) d (omega arith)) after)

-- a new link in its gap keeps a demand
pub IsDemand-insert : (links : List Link) (from to : TermNo) (place units : ℕ) → IsDemand links → IsGapFor links (from, to) place
    → from.0 ≢ to.0 → 0 < units → units ≤ 1048576 → IsDemand (insert links place (record { from = from; to = to; units = units }))
IsDemand-insert links from to place units is gap differ some few =
    let link : Link = record { from = from; to = to; units = units } in
    record {
      ordered = insert_pairs (λ (a b : Link). IsBefore (ends_of a) (ends_of b)) links place link is.ordered gap.before gap.after;
      each = All-append IsLink (take place links) (link ∷ drop place links) (All-take IsLink place links is.each)
          (All-cons IsLink link (drop place links) (record { differ = differ; some = some; few = few }) (All-drop IsLink place links is.each));
    }

-- a demand stays one without one of its links
pub IsDemand-remove : (links : List Link) (place : ℕ) → IsDemand links → place < length links → IsDemand (remove links place)
IsDemand-remove links place is within = record {
  ordered = all_pairs_remove (λ (a b : Link). IsBefore (ends_of a) (ends_of b)) links place within is.ordered;
  each = All-append IsLink (take place links) (drop (suc place) links) (All-take IsLink place links is.each) (All-drop IsLink (suc place) links is.each);
}

-- the ends at each place stay where the link at one place keeps its own
ends-set : (links : List Link) (place k : ℕ) (link d : Link) → place < length links → ends_of link ≡ ends_of (get_or links place d)
    → ends_of (get_or (slice_set links place link) k d) ≡ ends_of (get_or links k d)
ends-set links place k link d within kept = ⊎_elim
    (λ (here : k ≡ place). subst (λ (j : ℕ). ends_of (get_or (slice_set links place link) j d) ≡ ends_of (get_or links j d)) (sym here)
    (ap ends_of (get_or-set_same links place link d within) ∙ kept))
    (λ (other : k ≡ place → ⊥). ap ends_of (get_or-set_other links place k link d other))
    (cases_eq k place)

-- a demand stays one where a link of it gets another number
pub IsDemand-set : (links : List Link) (place units : ℕ) (old : Link) → IsDemand links → place < length links → old ≡ get_or links place old
    → 0 < units → units ≤ 1048576 → IsDemand (slice_set links place (record { from = old.from; to = old.to; units = units }))
IsDemand-set links place units old is within read some few =
    let link : Link = record { from = old.from; to = old.to; units = units } in
    let kept : (d : Link) → ends_of link ≡ ends_of (get_or links place d) = λ d. ap ends_of (get_or_read links place old within read d) in
    let was = subst IsLink (sym read) (is.each place old within) in
    record {
      ordered = λ i j d lt below.
          let below_too : j < length links = omega (arith, length-set links place link) in
          let before = is.ordered i j d lt below_too in
          subst (λ (x : LinkEnds). IsBefore (ends_of (get_or (slice_set links place link) i d)) x) (sym (ends-set links place j link d within (kept d)))
          (subst (λ (x : LinkEnds). IsBefore x (ends_of (get_or links j d))) (sym (ends-set links place i link d within (kept d))) before);
      each = All-set IsLink links place link (record { differ = was.differ; some = some; few = few }) is.each;
    }

-- the slots that were read at a link's place
pub units_read : (links : List Link) (from to : TermNo) (place : ℕ) (link : Link) → IsDemand links → IsAt links (from, to) place
    → link ≡ get_or links place link → units_of links from to ≡ link.units
units_read links from to place link is at read = units_of_at links from to place link is at ∙ ap (λ (l : Link). l.units) (sym read)

-- a demand stays one where one of its links gains
pub IsDemand-add : (links now : List Link) (from to : TermNo) (place units : ℕ) (old : Link) → links ≡ now → IsDemand links → IsAt now (from, to) place
    → old ≡ get_or links place old → units_of now from to + units ≤ 1048576
    → IsDemand (slice_set links place (record { from = old.from; to = old.to; units = old.units + units }))
IsDemand-add links now from to place units old view is at read fits =
    let there = subst (λ (l : List Link). IsAt l (from, to) place) (sym view) at in
    let held = units_read links from to place old is there read in
    let bound : units_of links from to + units ≤ 1048576 = subst (λ (l : List Link). units_of l from to + units ≤ 1048576) (sym view) fits in
    let was = subst IsLink (sym read) (is.each place old there.in_range) in
    IsDemand-set links place (old.units + units) old is there.in_range read (omega (arith, was.some)) (omega (arith, held, bound))

-- and where one of its links loses, as long as some slots are left
pub IsDemand-take : (links : List Link) (place units held : ℕ) (old : Link) → IsDemand links → place < length links → old ≡ get_or links place old
    → held ≡ old.units → units < held → IsDemand (slice_set links place (record { from = old.from; to = old.to; units = held - units }))
IsDemand-take links place units held old is within read same less =
    let was = subst IsLink (sym read) (is.each place old within) in
    IsDemand-set links place (held - units) old is within read (omega arith) (omega (arith, was.few))

-- the share of a link in a sum, before and after it lost some of its slots
share-less : (test : Bool) (units held : ℕ) → units ≤ held → (if test then held else 0) ≡ (if test then held - units else 0) + (if test then units else 0)
share-less true units held enough = omega arith
share-less false units held enough = omega arith

-- the link had the slots that it lost
pub Gains-back : (links : List Link) (from to : TermNo) (place units held : ℕ) (old : Link) → IsAt links (from, to) place → old ≡ get_or links place old
    → held ≡ old.units → units ≤ held → Gains (slice_set links place (record { from = old.from; to = old.to; units = held - units })) links from to units
Gains-back links from to place units held old at read same enough test =
    let link : Link = record { from = old.from; to = old.to; units = held - units } in
    let share = λ (l : Link). if test l.from l.to then l.units else 0 in
    let changed = sum_by-set share links place link old at.in_range in
    let was : share (get_or links place old) ≡ (if test old.from old.to then held else 0) =
    ap share (sym read) ∙ ap (λ (n : ℕ). if test old.from old.to then n else 0) (sym same) in
    let ends : ends_of old ≡ (from, to) = ap ends_of read ∙ at.has_ends old in
    let gained = ap (λ (e : LinkEnds). if test e.0 e.1 then units else 0) ends in
    omega (arith, changed, was, share-less (test old.from old.to) units held enough, gained)

-- the link that was read has as many slots as are taken
pub enough : (links now : List Link) (from to : TermNo) (place units : ℕ) (link : Link) → links ≡ now → IsDemand links → IsAt now (from, to) place
    → link ≡ get_or links place link → units ≤ units_of now from to → units ≤ link.units
enough links now from to place units link view is at read held =
    let there = subst (λ (l : List Link). IsAt l (from, to) place) (sym view) at in
    let bound : units ≤ units_of links from to = subst (λ (l : List Link). units ≤ units_of l from to) (sym view) held in
    omega (arith, bound, units_read links from to place link is there read)

-- What is left after some of a link's slots were taken. The link was read twice.
pub record IsTaken (links now : List Link) (from to : TermNo) (place units : ℕ) (link old : Link) : Type 0 where
  pub demand : IsDemand (slice_set links place (record { from = old.from; to = old.to; units = link.units - units }))
  pub gains : Gains (slice_set links place (record { from = old.from; to = old.to; units = link.units - units })) now from to units

pub taken : (links now : List Link) (from to : TermNo) (place units : ℕ) (link old : Link) → links ≡ now → IsDemand links → IsAt now (from, to) place
    → link ≡ get_or links place link → old ≡ get_or links place old → units ≤ link.units → link.units ≢ units → IsTaken links now from to place units link old
taken links now from to place units link old view is at first second fits other =
    let there = subst (λ (l : List Link). IsAt l (from, to) place) (sym view) at in
    let same : link.units ≡ old.units = ap (λ (l : Link). l.units) (get_or_read links place link there.in_range first old ∙ sym second) in
    let written = slice_set links place (record { from = old.from; to = old.to; units = link.units - units }) in
    record {
      demand = IsDemand-take links place units link.units old is there.in_range second same (omega arith);
      gains = subst (λ (l : List Link). Gains written l from to units) view (Gains-back links from to place units link.units old there second same fits);
    }
