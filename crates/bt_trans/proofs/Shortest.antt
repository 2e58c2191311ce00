-- No allocation of a matrix is shorter than one of its lines, nor than its total divided by the connections at once.
use Rattle.std.proofs.Common.{◌≡◌, ℕ, ◌+◌, ◌*◌, ◌<◌, ◌≤◌, ◌==◌, ◌&&◌, if◌then◌else◌, Bool, true, false, List, [], ◌∷◌, length, get_or, sum_by, sym, ap, ◌∙◌, refl, arith}
use Rattle.std.proofs.lemmas.Bool.{eqb-true, eq-eqb}
use Rattle.std.proofs.lemmas.List.Sums.{sum_by-cons}
use Rattle.bt_frame.specs.declared.schedule.Critical.{Critical}
use Rattle.bt_frame.specs.declared.schedule.Critical.TheVariants.{Row, Column}
use Rattle.bt_matrix.specs.Traffic.{entry, row_sum, column_sum, line_sum, IsLine, IsTraffic}
use Rattle.bt_frame.proofs.Totals.{total, total-le, total-same, total-zero, total-add, total-once, part-le-total}
use Rattle.bt_frame.proofs.Counts.{sum_by-le-within, sum_by-places_differ}
use Rattle.bt_modes.proofs.Sums.{IsSquare-traffic, row_sum-total, column_sum-total}
use Rattle.bt_trans.specs.declared.part.PartSchedule.{PartSchedule}
use Rattle.bt_trans.specs.Allocation.{Grant, goes, lies, IsAllocation}
use Rattle.bt_trans.specs.Part.{total_slots, IsGoodPart}
use Rattle.bt_trans.proofs.LeastLengths.{reached-le}
use Rattle.bt_trans.proofs.Totals.{total-equal, total_slots-total}

-- numbers first or items first
pub total-sum_by : {X : Type 0} (n : ℕ) (f : ℕ → X → ℕ) (xs : List X) → total n (λ k. sum_by (f k) xs) ≡ sum_by (λ x. total n (λ k. f k x)) xs
total-sum_by n f [] = total-zero n
total-sum_by {X} n f (x ∷ xs) =
    let each = total-same n (λ k. sum_by (f k) (x ∷ xs)) (λ k. f k x + sum_by (f k) xs) (λ k below. sum_by-cons (f k) x xs) in
    let apart = total-add n (λ k. f k x) (λ k. sum_by (f k) xs) in
    omega (arith, each, apart, total-sum_by n f xs, sum_by-cons (λ (y : X). total n (λ k. f k y)) x xs)

-- the units from a beam, and those to a beam
abbrev rises : ℕ → Grant → ℕ
rises up grant = if grant.up == up then 1 else 0

abbrev falls : ℕ → Grant → ℕ
falls down grant = if grant.down == down then 1 else 0

-- a number is one of those below at most
once_below : (n place : ℕ) (test : Bool) → total n (λ k. if test && place == k then 1 else 0) ≤ (if test then 1 else 0)
once_below n place true = total-once n 1 (λ k. place == k) (λ j k less below first second.
    let at_j = eqb-true place j first in
    let at_k = eqb-true place k second in
    omega arith)
once_below n place false = omega (arith, total-zero n)

-- one where the test passes
abbrev one_if : Bool → ℕ
one_if test = if test then 1 else 0

-- both ways round
and_swap : (a b : Bool) → one_if (a && b) ≡ one_if (b && a)
and_swap true true = refl
and_swap true false = refl
and_swap false true = refl
and_swap false false = refl

once_before : (n place : ℕ) (test : Bool) → total n (λ k. one_if (place == k && test)) ≤ one_if test
once_before n place test = omega (arith, once_below n place test, total-same n (λ k. one_if (place == k && test)) (λ k. one_if (test && place == k)) (λ k below. and_swap (place == k) test))

-- So many units of a beam as its line asks for, each in a slot of its own.
row-le-slots : (rows : List (List ℕ)) (k slots up : ℕ) (grants : List Grant) → IsTraffic rows → IsAllocation rows k slots grants → up < length rows
    → row_sum rows up ≤ slots
row-le-slots rows k slots up grants is given inside =
    let by_entries = row_sum-total rows (length rows) up (IsSquare-traffic rows is) inside in
    let by_pairs = total-same (length rows) (entry rows up) (λ down. sum_by (goes up down) grants) (λ down below. sym (given.exact up down)) in
    let by_grants = total-sum_by (length rows) (λ down grant. goes up down grant) grants in
    let each = sum_by-le-within (λ (g : Grant). total (length rows) (λ down. goes up down g)) (rises up) grants
    (λ k d within. let g = get_or grants k d in once_below (length rows) g.down (g.up == up)) in
    let few = sum_by-places_differ (λ (g : Grant). g.up == up) (λ (g : Grant). g.slot) slots grants
    (λ i j d lt within first second same. given.up_once i j d lt within same (eqb-true _ _ first ∙ sym (eqb-true _ _ second)))
    given.within in
    omega (arith, by_entries, by_pairs, by_grants, each, few)

column-le-slots : (rows : List (List ℕ)) (k slots down : ℕ) (grants : List Grant) → IsTraffic rows → IsAllocation rows k slots grants → down < length rows
    → column_sum rows down ≤ slots
column-le-slots rows k slots down grants is given inside =
    let by_entries = column_sum-total rows (length rows) down (IsSquare-traffic rows is) in
    let by_pairs = total-same (length rows) (λ up. entry rows up down) (λ up. sum_by (goes up down) grants) (λ up below. sym (given.exact up down)) in
    let by_grants = total-sum_by (length rows) (λ up grant. goes up down grant) grants in
    let each = sum_by-le-within (λ (g : Grant). total (length rows) (λ up. goes up down g)) (falls down) grants
    (λ k d within. let g = get_or grants k d in once_before (length rows) g.up (g.down == down)) in
    let few = sum_by-places_differ (λ (g : Grant). g.down == down) (λ (g : Grant). g.slot) slots grants
    (λ i j d lt within first second same. given.down_once i j d lt within same (eqb-true _ _ first ∙ sym (eqb-true _ _ second)))
    given.within in
    omega (arith, by_entries, by_pairs, by_grants, each, few)

line-le-slots : (rows : List (List ℕ)) (k slots : ℕ) (grants : List Grant) (line : Critical) → IsTraffic rows → IsAllocation rows k slots grants
    → IsLine rows line → line_sum rows line ≤ slots
line-le-slots rows k slots grants (Row up) is given inside = row-le-slots rows k slots up.0 grants is given inside
line-le-slots rows k slots grants (Column down) is given inside = column-le-slots rows k slots down.0 grants is given inside

-- a unit is counted for the one pair that it has, at most
one_pair : (n : ℕ) (g : Grant) → total n (λ up. total n (λ down. goes up down g)) ≤ 1
one_pair n g =
    let rows = total-le n (λ up. total n (λ down. goes up down g)) (λ up. one_if (true && g.up == up)) (λ up below. once_below n g.down (g.up == up)) in
    omega (arith, rows, once_below n g.up true)

-- a slot below the end is one of those
in_its_slot : (slots : ℕ) (g : Grant) → g.slot < slots → 1 ≤ total slots (λ slot. lies slot g)
in_its_slot slots g below =
    let here : lies g.slot g ≡ 1 = ap one_if (eq-eqb g.slot g.slot refl) in
    omega (arith, here, part-le-total slots (λ slot. lies slot g) g.slot below)

-- All units together: k at most in each slot.
pub total-le-slots : (rows : List (List ℕ)) (k slots : ℕ) (grants : List Grant) → IsTraffic rows → IsAllocation rows k slots grants
    → total_slots rows ≤ k * slots
total-le-slots rows k slots grants is given =
    let n = length rows in
    let square = IsSquare-traffic rows is in
    let by_rows = total_slots-total rows in
    let by_entries = total-same n (row_sum rows) (λ up. total n (λ down. sum_by (goes up down) grants)) (λ up inside.
    row_sum-total rows n up square inside ∙ total-same n (entry rows up) (λ down. sum_by (goes up down) grants) (λ down below. sym (given.exact up down))) in
    let inner = total-same n (λ up. total n (λ down. sum_by (goes up down) grants)) (λ up. sum_by (λ g. total n (λ down. goes up down g)) grants)
    (λ up below. total-sum_by n (λ down g. goes up down g) grants) in
    let outer = total-sum_by n (λ up g. total n (λ down. goes up down g)) grants in
    let each = sum_by-le-within (λ (g : Grant). total n (λ up. total n (λ down. goes up down g))) (λ g. total slots (λ slot. lies slot g)) grants
    (λ j d within. let g = get_or grants j d in let one = one_pair n g in let there = in_its_slot slots g (given.within j d within) in omega (arith, one, there)) in
    let by_slots = total-sum_by slots (λ slot g. lies slot g) grants in
    let few = total-le slots (λ slot. sum_by (lies slot) grants) (λ _. k) (λ slot below. given.few slot) in
    omega (arith, by_rows, by_entries, inner, outer, each, by_slots, few, total-equal slots k)

pub least-le-slots : (rows : List (List ℕ)) (k slots : ℕ) (schedule : PartSchedule) (grants : List Grant) → IsTraffic rows
    → IsGoodPart rows k schedule → IsAllocation rows k slots grants → schedule.length ≤ slots
least-le-slots rows k slots schedule grants is good given = reached-le rows k schedule.length slots schedule.bound good.least.reached
    (λ line inside. line-le-slots rows k slots grants line is given inside) (total-le-slots rows k slots grants is given)
