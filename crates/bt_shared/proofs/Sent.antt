-- Bursts in order of the terminal that sends: those of one terminal stand side by side.
use Rattle.std.proofs.Common.{◌≡◌, ℕ, suc, ◌+◌, ◌<◌, ◌≤◌, ◌==◌, Bool, true, false, List, [], ◌∷◌, ◌++◌, length, get_or, take, drop, All, ltb, refl, sym, ap, ◌∙◌, arith, eq-eqb}
use Rattle.std.specs.List.{filter}
use Rattle.std.specs.List.Sorted.{ties, IsNonDecreasingBy, IsPartitionPoint, IsPartitionedBy, IsStableByKey}
use Rattle.std.specs.Ordering.{is_lt, nat_cmp}
use Rattle.std.proofs.lemmas.Bool.{eqb-true, ltb-true, ltb-false}
use Rattle.std.proofs.lemmas.Bool.Decides.{nat_tests}
use Rattle.std.proofs.lemmas.List.{append-nil, get_or-drop, get_or-take, length-drop, length-take, take-append-drop}
use Rattle.std.proofs.lemmas.List.Elements.{filter-append, filter_agree, filter_passes}
use Rattle.bt_frame.specs.declared.numbers.TermNo.{TermNo}
use Rattle.bt_demand.specs.declared.burst.Burst.{Burst}
use Rattle.bt_demand.specs.Apart.{bursts_from}

-- the number of the terminal that sends
abbrev pub sender : Burst → ℕ
sender burst = burst.from.0

-- terminals that tie are one
tie : (m n : ℕ) → ties (λ (x y : ℕ). is_lt (nat_cmp x y)) n m ≡ (m == n)
tie m n = grind (arith, nat_tests)

-- a stable sort by the sender leaves the bursts of each in their order
pub kept_in_order : (bursts sorted : List Burst) → IsStableByKey sender nat_cmp bursts sorted → (terminal : TermNo) → bursts_from terminal sorted ≡ bursts_from terminal bursts
kept_in_order bursts sorted stable terminal =
    let one : Burst = record { from = terminal; to = terminal; start = 0; length = 0 } in
    let same : (burst : Burst) → ties (λ (x y : Burst). is_lt (nat_cmp (sender x) (sender y))) one burst ≡ (burst.from.0 == terminal.0) = λ burst. tie burst.from.0 terminal.0 in
    sym (filter_agree _ _ same sorted) ∙ stable one ∙ filter_agree _ _ same bursts

all_pass : (p : Burst → Bool) (bursts : List Burst) → All (λ burst. p burst ≡ true) bursts → filter p bursts ≡ bursts
all_pass p [] all = refl
all_pass p (burst ∷ bursts) all =
    let first : p burst ≡ true = all 0 burst (omega arith) in
    rw first (ap (λ (rest : List Burst). burst ∷ rest) (all_pass p bursts (λ k d within. all (suc k) d (omega arith))))

-- what a terminal sends of what it sends is all of it
pub sent_again : (terminal : TermNo) (bursts : List Burst) → bursts_from terminal (bursts_from terminal bursts) ≡ bursts_from terminal bursts
sent_again terminal bursts = let p = λ (burst : Burst). burst.from.0 == terminal.0 in all_pass p (bursts_from terminal bursts) (filter_passes p bursts)

none_pass : (p : Burst → Bool) (bursts : List Burst) → All (λ burst. p burst ≡ false) bursts → filter p bursts ≡ []
none_pass p [] none = refl
none_pass p (burst ∷ bursts) none =
    let first : p burst ≡ false = none 0 burst (omega arith) in
    rw first (none_pass p bursts (λ k d within. none (suc k) d (omega arith)))

-- what stands before a number of bursts of a list
front : (p : Burst → Bool) (b : Bool) (bursts : List Burst) (count : ℕ) → count ≤ length bursts
    → ((k : ℕ) (d : Burst) → 0 ≤ k → k < count → p (get_or bursts k d) ≡ b) → All (λ burst. p burst ≡ b) (take count bursts)
front p b bursts count fits holds k d within =
    let inside : k < count = omega (arith, within, length-take count bursts) in
    ap p (get_or-take count bursts k d inside) ∙ holds k d (omega arith) inside

-- and what stands behind
back : (p : Burst → Bool) (b : Bool) (bursts : List Burst) (count : ℕ)
    → ((k : ℕ) (d : Burst) → count ≤ k → k < length bursts → p (get_or bursts k d) ≡ b) → All (λ burst. p burst ≡ b) (drop count bursts)
back p b bursts count holds k d within =
    let inside : count + k < length bursts = omega (arith, within, length-drop count bursts) in
    ap p (get_or-drop count bursts k d) ∙ holds (count + k) d (omega arith) inside

-- from the first burst that no lower terminal sends, those of the terminal come before all others
pub own_first : (n first : ℕ) (bursts : List Burst) → IsNonDecreasingBy sender bursts
    → IsPartitionPoint (λ burst. ltb burst.from.0 n ≡ true) (λ burst. ltb burst.from.0 n ≡ false) bursts first
    → IsPartitionedBy (λ (burst : Burst). burst.from.0 == n) (drop first bursts)
own_first n first bursts sorted point i j d order within is =
    let long = length-drop first bursts in
    let low : n ≤ (get_or bursts (first + i) d).from.0 = ltb-false _ n (point.1 (first + i) d (omega arith) (omega (arith, order, within, long))) in
    let rises : (get_or bursts (first + i) d).from.0 ≤ (get_or bursts (first + j) d).from.0 = sorted (first + i) (first + j) d (omega (arith, order)) (omega (arith, within, long)) in
    let here : (get_or bursts (first + j) d).from.0 ≡ n = ap sender (sym (get_or-drop first bursts j d)) ∙ eqb-true _ n is in
    ap (λ (burst : Burst). burst.from.0 == n) (get_or-drop first bursts i d) ∙ eq-eqb _ n (omega (arith, low, rises, here))

-- so they are all that the terminal sends
pub own_bursts : (terminal : TermNo) (first count : ℕ) (bursts : List Burst) → first ≤ length bursts → count ≤ length (drop first bursts)
    → IsPartitionPoint (λ burst. ltb burst.from.0 terminal.0 ≡ true) (λ burst. ltb burst.from.0 terminal.0 ≡ false) bursts first
    → IsPartitionPoint (λ burst. (burst.from.0 == terminal.0) ≡ true) (λ burst. (burst.from.0 == terminal.0) ≡ false) (drop first bursts) count
    → take count (drop first bursts) ≡ bursts_from terminal bursts
own_bursts terminal first count bursts fits few below own =
    let p = λ (burst : Burst). burst.from.0 == terminal.0 in
    let rest = drop first bursts in
    let lower : (k : ℕ) (d : Burst) → 0 ≤ k → k < first → p (get_or bursts k d) ≡ false = λ k d least inside.
    let less : (get_or bursts k d).from.0 < terminal.0 = ltb-true _ terminal.0 (below.0 k d least inside) in grind (arith, nat_tests, less) in
    let none : filter p (take first bursts) ≡ [] = none_pass p (take first bursts) (front p false bursts first fits lower) in
    let all : filter p (take count rest) ≡ take count rest = all_pass p (take count rest) (front p true rest count few own.0) in
    let others : filter p (drop count rest) ≡ [] = none_pass p (drop count rest) (back p false rest count own.1) in
    let split : filter p rest ≡ take count rest =
    ap (λ (list : List Burst). filter p list) (sym (take-append-drop count rest)) ∙ filter-append p (take count rest) (drop count rest)
    ∙ ap (λ (list : List Burst). filter p (take count rest) ++ list) others ∙ append-nil (filter p (take count rest)) ∙ all in
    sym (ap (λ (list : List Burst). filter p list) (sym (take-append-drop first bursts)) ∙ filter-append p (take first bursts) rest
    ∙ ap (λ (list : List Burst). list ++ filter p rest) none ∙ split)
