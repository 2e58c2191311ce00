-- Plans found by their editions.
use Rattle.std.proofs.Common.{◌≡◌, ◌≢◌, ℕ, zero, suc, ◌-◌, ◌<◌, ◌≤◌, ◌==◌, if◌then◌else◌, Bool, true, false, List, [], ◌∷◌, length, map, reverse, get_or, Option, Some, None, Result, Ok, Err, slice_get, filter, refl, sym, ◌∙◌, ap, subst, arith, ⊎_elim}
use Rattle.std.specs.Prelude.{MatchResult, cond, nat_lt, not, ◌||◌}
use Rattle.std.specs.declared.cmp.Ordering.{Ordering}
use Rattle.std.specs.declared.cmp.Ordering.TheVariants.{Less, Equal, Greater}
use Rattle.std.specs.List.Sorted.{IsSearchInRange, IsBinarySearchResult, IsNonDecreasingBy}
use Rattle.std.specs.Ordering.{nat_cmp, ordering_index}
use Rattle.std.proofs.lemmas.Bool.{cases_eq}
use Rattle.std.proofs.lemmas.Bool.Decides.{nat_tests}
use Rattle.std.proofs.lemmas.Cmp.{ranked}
use Rattle.std.proofs.lemmas.List.{get_or-reverse, length-reverse, length-map}
use Rattle.bt_frame.proofs.OneNumber.{same_edition}
use Rattle.bt_frame.specs.declared.numbers.EditionNo.{EditionNo}
use Rattle.bt_demand.specs.declared.plan.Plan.{Plan}
use Rattle.std.specs.List.{list_any}
use Rattle.std.proofs.lemmas.List.FromFn.{get_or-map-range_with_len, length-map-range_with_len}
use Rattle.std.proofs.lemmas.Option.{get_or_from_slice_get}
use Rattle.bt_frame.specs.declared.numbers.TermNo.{TermNo}
use Rattle.bt_demand.specs.Apart.{bursts_from}
use Rattle.bt_demand.specs.declared.burst.Burst.{Burst}
use Rattle.bt_machines.proofs.Ground.{own}
use Rattle.bt_demand.specs.Plan.{empty_plan}
use Rattle.bt_machines.specs.Plans.{StartsEmpty, newest_of, bursts_for, first_or, has_burst, plan_of}
use Rattle.bt_site.specs.Plans.{StandsAt}
use Rattle.bt_site.specs.Shares.{shares_of}

-- every plan is of a lower edition than the newest
below-newest : (plan : Plan) (rest : List Plan) (k : ℕ) (d : Plan) → StartsEmpty (plan ∷ rest) → k < length rest → (get_or rest k d).edition.0 < plan.edition.0
below-newest plan [] k d starts within = absurd (omega (arith, within))
below-newest plan (before ∷ rest) zero d starts within = starts.0
below-newest plan (before ∷ rest) (suc k) d starts within = omega (arith, starts.0, below-newest before rest k d starts.1 (omega (arith, within)))

falls : (all : List Plan) (i j : ℕ) (d : Plan) → StartsEmpty all → i < j → j < length all → (get_or all j d).edition.0 < (get_or all i d).edition.0
falls [] i j d starts less within = absurd (omega (arith, within))
falls (plan ∷ rest) i zero d starts less within = absurd (omega (arith, less))
falls (plan ∷ rest) zero (suc j) d starts less within = below-newest plan rest j d starts (omega (arith, within))
falls (plan ∷ []) (suc i) (suc j) d starts less within = absurd (omega (arith, within))
falls (plan ∷ before ∷ rest) (suc i) (suc j) d starts less within = falls (before ∷ rest) i j d starts.1 (omega (arith, less)) (omega (arith, within))

not-this : (plan : Plan) (edition : EditionNo) (test : Bool) → (plan.edition.0 == edition.0) ≡ test → plan.edition.0 ≢ edition.0 → (if test then Some plan else None) ≡ None
not-this plan edition true e other = absurd (grind (arith, nat_tests, e))
not-this plan edition false e other = refl

-- no plan of that edition
pub none-of : (all : List Plan) (edition : EditionNo) → ((k : ℕ) (d : Plan) → k < length all → (get_or all k d).edition.0 ≢ edition.0) → plan_of all edition ≡ None
none-of [] edition others = refl
none-of (plan ∷ rest) edition others =
    ap (λ (o : Option Plan). first_or o edition plan) (none-of rest edition (λ k d within. others (suc k) d (omega (arith, within))))
    ∙ not-this plan edition _ refl (others 0 plan (omega arith))

own-first : (plan : Plan) → first_or None plan.edition plan ≡ Some plan
own-first plan = rw (own plan.edition.0) refl

-- a plan is the one of its edition
found-at : (all : List Plan) (k : ℕ) (d : Plan) → StartsEmpty all → k < length all → plan_of all (get_or all k d).edition ≡ Some (get_or all k d)
found-at [] k d starts within = absurd (omega (arith, within))
found-at (plan ∷ rest) zero d starts within =
    ap (λ (o : Option Plan). first_or o plan.edition plan) (none-of rest plan.edition (λ k p inside. omega (arith, below-newest plan rest k p starts inside))) ∙ own-first plan
found-at (plan ∷ []) (suc k) d starts within = absurd (omega (arith, within))
found-at (plan ∷ before ∷ rest) (suc k) d starts within =
    ap (λ (o : Option Plan). first_or o (get_or (before ∷ rest) k d).edition plan) (found-at (before ∷ rest) k d starts.1 (omega (arith, within)))

-- the same with the first first
pub found-first : (all : List Plan) (k : ℕ) (d : Plan) → StartsEmpty all → k < length all → plan_of all (get_or (reverse all) k d).edition ≡ Some (get_or (reverse all) k d)
found-first all k d starts within =
    subst (λ (p : Plan). plan_of all p.edition ≡ Some p) (sym (get_or-reverse all k d within)) (found-at all (length all - 1 - k) d starts (omega (arith, within)))

-- what stands within a list does not turn on what stands for the rest
any-other : (all : List Plan) (k : ℕ) (d e : Plan) → k < length all → get_or all k d ≡ get_or all k e
any-other [] k d e within = absurd (omega (arith, within))
any-other (plan ∷ rest) zero d e within = refl
any-other (plan ∷ rest) (suc k) d e within = any-other rest k d e (omega (arith, within))

-- an element of a mapped list
pub mapped-at : {X Y : Type 0} (f : X → Y) (xs : List X) (k : ℕ) (d : Y) (e : X) → k < length xs → get_or (map f xs) k d ≡ f (get_or xs k e)
mapped-at f [] k d e within = absurd (omega (arith, within))
mapped-at f (x ∷ xs) zero d e within = refl
mapped-at f (x ∷ xs) (suc k) d e within = mapped-at f xs k d e (omega (arith, within))

editions-rise : (all : List Plan) (i j : ℕ) (d : Plan) → StartsEmpty all → i ≤ j → j < length all → (get_or (reverse all) i d).edition.0 ≤ (get_or (reverse all) j d).edition.0
editions-rise all i j d starts le within =
    ⊎_elim
    (λ (same : i ≡ j). let along = ap (λ (k : ℕ). (get_or (reverse all) k d).edition.0) same in omega (arith, along))
    (λ (other : i ≡ j → ⊥).
    let one = ap (λ (p : Plan). p.edition.0) (get_or-reverse all i d (omega arith)) in
    let two = ap (λ (p : Plan). p.edition.0) (get_or-reverse all j d within) in
    omega (arith, one, two, falls all (length all - 1 - j) (length all - 1 - i) d starts (omega arith) (omega arith)))
    (cases_eq i j)

rank-rises : (a b n : ℕ) (o p : Ordering) → o ≡ nat_cmp a n → p ≡ nat_cmp b n → a ≤ b → ordering_index o ≤ ordering_index p
rank-rises a b n Less p first second le = elim p as (λ (r : Ordering). ordering_index Less ≤ ordering_index r) [ Less ↦ omega arith | Equal ↦ omega arith | Greater ↦ omega arith ]
rank-rises a b n Equal Less first second le = absurd (omega (arith, ranked a n Equal first, ranked b n Less second))
rank-rises a b n Equal Equal first second le = omega arith
rank-rises a b n Equal Greater first second le = omega arith
rank-rises a b n Greater Less first second le = absurd (omega (arith, ranked a n Greater first, ranked b n Less second))
rank-rises a b n Greater Equal first second le = absurd (omega (arith, ranked a n Greater first, ranked b n Equal second))
rank-rises a b n Greater Greater first second le = omega arith

abbrev editions_of : List Plan → List EditionNo
editions_of all = map (λ (plan : Plan). plan.edition) (reverse all)

long : (all : List Plan) → length (editions_of all) ≡ length all
long all = length-map (reverse all) (λ (plan : Plan). plan.edition) ∙ length-reverse all

edition-at : (all : List Plan) (k : ℕ) (d : EditionNo) (p : Plan) → k < length all → get_or (editions_of all) k d ≡ (get_or (reverse all) k p).edition
edition-at all k d p within = mapped-at (λ (plan : Plan). plan.edition) (reverse all) k d p (omega (arith, within, length-reverse all))

ranks-rise : (all : List Plan) (n : ℕ) → StartsEmpty all → IsNonDecreasingBy (λ (e : EditionNo). ordering_index (nat_cmp e.0 n)) (editions_of all)
ranks-rise all n starts i j d le within =
    let short : j < length all = omega (arith, within, long all) in
    let one = ap (λ (e : EditionNo). e.0) (edition-at all i d empty_plan (omega arith)) in
    let two = ap (λ (e : EditionNo). e.0) (edition-at all j d empty_plan short) in
    rank-rises _ _ n _ _ refl refl (omega (arith, one, two, editions-rise all i j empty_plan starts le short))

-- before the place all editions are lower, and from it on they are higher
abbrev HasGapAt : List Plan → EditionNo → ℕ → Type 0
HasGapAt all edition place = (k : ℕ) → k < length all → (k < place → (get_or (reverse all) k empty_plan).edition.0 < edition.0) × (place ≤ k → edition.0 < (get_or (reverse all) k empty_plan).edition.0)

gap-ranks : (all : List Plan) (edition : EditionNo) (editions : List EditionNo) (place : ℕ) → editions ≡ editions_of all
    → ((k : ℕ) (d : EditionNo) → 0 ≤ k → k < place → nat_cmp (get_or editions k d).0 edition.0 ≡ Less)
    → ((k : ℕ) (d : EditionNo) → place ≤ k → k < length editions → nat_cmp (get_or editions k d).0 edition.0 ≡ Greater) → HasGapAt all edition place
gap-ranks all edition editions place are less greater k within =
    let at = ap (λ (e : EditionNo). e.0) (ap (λ (list : List EditionNo). get_or list k edition) are ∙ edition-at all k edition empty_plan within) in
    let x = (get_or editions k edition).0 in (
      (λ before. let lower : x < edition.0 = ranked x edition.0 Less (sym (less k edition (omega arith) before)) in omega (arith, at, lower)),
      (λ after. let higher : edition.0 < x = ranked x edition.0 Greater (sym (greater k edition after (omega (arith, ap length are, long all)))) in omega (arith, at, higher)),
    )

-- a place is before the gap, or after it
neither : (m place : ℕ) (a b : ℕ) (test : Bool) → nat_lt m place ≡ test → (m < place → a < b) × (place ≤ m → b < a) → a ≡ b → ⊥
neither m place a b true e gap same = let before : m < place = grind (arith, nat_tests, e) in omega (arith, gap.0 before, same)
neither m place a b false e gap same = let after : place ≤ m = grind (arith, nat_tests, e) in omega (arith, gap.1 after, same)

none-there : (all : List Plan) (edition : EditionNo) (place : ℕ) → HasGapAt all edition place → (k : ℕ) (d : Plan) → k < length all → (get_or all k d).edition.0 ≡ edition.0 → ⊥
none-there all edition place gap k d within same =
    let m = length all - 1 - k in
    let inside : m < length all = omega (arith, within) in
    let back : length all - 1 - m ≡ k = omega (arith, within) in
    let at : (get_or (reverse all) m empty_plan).edition.0 ≡ edition.0 =
    ap (λ (p : Plan). p.edition.0) (get_or-reverse all m empty_plan inside) ∙ ap (λ (n : ℕ). (get_or all n empty_plan).edition.0) back
    ∙ ap (λ (p : Plan). p.edition.0) (any-other all k empty_plan d within) ∙ same in
    neither m place _ _ _ refl (gap m inside) at

-- a search by the edition ends at its plan, or there is none
pub searched : (all : List Plan) (edition : EditionNo) (editions : List EditionNo) (r : Result ℕ ℕ) → StartsEmpty all → editions ≡ editions_of all → IsSearchInRange r (length editions)
    → IsBinarySearchResult (λ (e : EditionNo). nat_cmp e.0 edition.0) editions r → MatchResult r (StandsAt all edition) (λ _. plan_of all edition ≡ None)
searched all edition editions (Ok place) starts are in_range equal =
    let within : place < length all = omega (arith, in_range, ap length are, long all) in
    record {
      within = within;
      is = λ d.
          let rank : Equal ≡ nat_cmp (get_or editions place edition).0 edition.0 = sym (equal edition) in
          let at = ap (λ (list : List EditionNo). get_or list place edition) are ∙ edition-at all place edition d within in
          let same : (get_or (reverse all) place d).edition ≡ edition = sym at ∙ same_edition _ _ (ranked _ _ Equal rank) in
          ap (plan_of all) (sym same) ∙ found-first all place d starts within;
    }
searched all edition editions (Err place) starts are in_range parted =
    let parts = parted (subst (λ (list : List EditionNo). IsNonDecreasingBy (λ (e : EditionNo). ordering_index (nat_cmp e.0 edition.0)) list) (sym are) (ranks-rise all edition.0 starts)) in
    none-of all edition (λ k d within same. none-there all edition place (gap-ranks all edition editions place are parts.0 parts.1) k d within same)

pub searched-ok : (all : List Plan) (edition : EditionNo) (editions : List EditionNo) (r : Result ℕ ℕ) (k : ℕ) → r ≡ Ok k → StartsEmpty all → editions ≡ editions_of all → IsSearchInRange r (length editions)
    → IsBinarySearchResult (λ (e : EditionNo). nat_cmp e.0 edition.0) editions r → StandsAt all edition k
searched-ok all edition editions r k is starts are in_range finds =
    subst (λ (x : Result ℕ ℕ). MatchResult x (StandsAt all edition) (λ _. plan_of all edition ≡ None)) is (searched all edition editions r starts are in_range finds)

pub searched-err : (all : List Plan) (edition : EditionNo) (editions : List EditionNo) (r : Result ℕ ℕ) (k : ℕ) → r ≡ Err k → StartsEmpty all → editions ≡ editions_of all → IsSearchInRange r (length editions)
    → IsBinarySearchResult (λ (e : EditionNo). nat_cmp e.0 edition.0) editions r → plan_of all edition ≡ None
searched-err all edition editions r k is starts are in_range finds =
    subst (λ (x : Result ℕ ℕ). MatchResult x (StandsAt all edition) (λ _. plan_of all edition ≡ None)) is (searched all edition editions r starts are in_range finds)

-- the newest edition stands last
newest-at : (all : List Plan) (d : EditionNo) → StartsEmpty all → get_or (editions_of all) (length all - 1) d ≡ newest_of all
newest-at [] d starts = absurd starts
newest-at (plan ∷ rest) d starts =
    let within : length (plan ∷ rest) - 1 < length (plan ∷ rest) = omega arith in
    let first : length (plan ∷ rest) - 1 - (length (plan ∷ rest) - 1) ≡ 0 = omega arith in
    edition-at (plan ∷ rest) (length (plan ∷ rest) - 1) d plan within
    ∙ ap (λ (p : Plan). p.edition) (get_or-reverse (plan ∷ rest) (length (plan ∷ rest) - 1) plan within)
    ∙ ap (λ (n : ℕ). (get_or (plan ∷ rest) n plan).edition) first

pub newest-said : (all : List Plan) (editions : List EditionNo) (n : ℕ) (d : EditionNo) → StartsEmpty all → editions ≡ editions_of all → n ≡ length editions → get_or editions (n - 1) d ≡ newest_of all
newest-said all editions n d starts are count =
    let same : n ≡ length all = count ∙ ap length are ∙ long all in
    ap (λ (list : List EditionNo). get_or list (n - 1) d) are ∙ ap (λ (m : ℕ). get_or (editions_of all) (m - 1) d) same ∙ newest-at all d starts

-- what the terminals transmit in a plan, by number
pub shares-at : (all : List Plan) (n : ℕ) (shares : List (List (List Burst))) (edition : EditionNo) (k : ℕ) (d : List (List Burst)) → shares ≡ map (λ (plan : Plan). shares_of n plan.bursts) (reverse all)
    → StandsAt all edition k → get_or shares k d ≡ shares_of n (get_or (reverse all) k empty_plan).bursts
shares-at all n shares edition k d are stands =
    ap (λ (list : List (List (List Burst))). get_or list k d) are
    ∙ mapped-at (λ (plan : Plan). shares_of n plan.bursts) (reverse all) k d empty_plan (omega (arith, stands.within, length-reverse all))

share-count : (n : ℕ) (bursts : List Burst) → length (shares_of n bursts) ≡ n
share-count n bursts = length-map-range_with_len (λ (k : ℕ). bursts_from (record { 0 = k }) bursts) 0 n

pub share-within : (all : List Plan) (n : ℕ) (shares : List (List (List Burst))) (edition : EditionNo) (k : ℕ) (d : List (List Burst)) (terminal : TermNo)
    → shares ≡ map (λ (plan : Plan). shares_of n plan.bursts) (reverse all) → StandsAt all edition k → terminal.0 < n → terminal.0 < length (get_or shares k d)
share-within all n shares edition k d terminal are stands within =
    omega (arith, within, ap length (shares-at all n shares edition k d are stands), share-count n (get_or (reverse all) k empty_plan).bursts)

pub share-said : (all : List Plan) (n : ℕ) (share : List (List Burst)) (edition : EditionNo) (k : ℕ) (terminal : TermNo) (list : List Burst) → share ≡ shares_of n (get_or (reverse all) k empty_plan).bursts
    → StandsAt all edition k → terminal.0 < n → slice_get share terminal.0 ≡ Some list → list ≡ bursts_for terminal (plan_of all edition)
share-said all n share edition k terminal list are stands within found =
    let bursts = (get_or (reverse all) k empty_plan).bursts in
    sym (get_or_from_slice_get share terminal.0 list [] found)
    ∙ ap (λ (s : List (List Burst)). get_or s terminal.0 []) are
    ∙ get_or-map-range_with_len (λ (m : ℕ). bursts_from (record { 0 = m }) bursts) 0 n terminal.0 terminal.0 [] within (omega arith)
    ∙ ap (λ (p : Option Plan). bursts_for terminal p) (sym (stands.is empty_plan))

some-of : (test : Bool) (burst : Burst) (others : Bool) (kept : List Burst) → others ≡ not (length kept == 0) → (test || others) ≡ not (length (cond test (burst ∷ kept) kept) == 0)
some-of true burst others kept e = grind (arith, nat_tests)
some-of false burst others kept e = e

some-by : (p : Burst → Bool) (burst : Burst) (bursts : List Burst) (test : Bool) → p burst ≡ test → list_any p bursts ≡ not (length (filter p bursts) == 0)
    → list_any p (burst ∷ bursts) ≡ not (length (filter p (burst ∷ bursts)) == 0)
some-by p burst bursts test e rest =
    ap (λ (b : Bool). b || list_any p bursts) e ∙ some-of test burst (list_any p bursts) (filter p bursts) rest
    ∙ ap (λ (b : Bool). not (length (cond b (burst ∷ filter p bursts) (filter p bursts)) == 0)) (sym e)

-- a terminal transmits where it has bursts
some-pass : (p : Burst → Bool) (bursts : List Burst) → list_any p bursts ≡ not (length (filter p bursts) == 0)
some-pass p [] = refl
some-pass p (burst ∷ bursts) = some-by p burst bursts (p burst) refl (some-pass p bursts)

pub has-some : (plan : Option Plan) (terminal : TermNo) → has_burst plan terminal ≡ not (length (bursts_for terminal plan) == 0)
has-some None terminal = refl
has-some (Some plan) terminal = some-pass (λ (burst : Burst). burst.from.0 == terminal.0) plan.bursts
