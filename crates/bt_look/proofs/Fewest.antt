-- Changes that come to a demand have an edit for each of its links: each gives to one link at most.
use Rattle.std.proofs.Common.{◌≡◌, ℕ, ◌<◌, ◌≤◌, ◌==◌, ◌&&◌, if◌then◌else◌, nat_lt, Bool, true, false, List, [], ◌∷◌, length, get_or, sum_by, All, AllPairs, refl, sym, ap, ◌∙◌, arith, ⊎_elim}
use Rattle.std.proofs.lemmas.Bool.{cases_Bool}
use Rattle.std.proofs.lemmas.Bool.Decides.{nat_tests}
use Rattle.std.proofs.lemmas.List.Sums.{sum_by-cons, get_or-le-sum_by}
use Rattle.bt_frame.specs.declared.numbers.TermNo.{TermNo}
use Rattle.bt_frame.proofs.Counts.{sum_by-exchange, sum_by-le-within, sum_by-none_passes, sum_by-one_passes}
use Rattle.bt_demand.specs.declared.demand.Link.{Link}
use Rattle.bt_demand.specs.Demand.{IsDemand}
use Rattle.bt_journal.specs.declared.call.Edit.TheVariants.{Add, Drop, Move}
use Rattle.bt_journal.specs.declared.call.Change.{Change}
use Rattle.bt_journal.specs.declared.call.Change.TheVariants as change
use Rattle.bt_journal.specs.JournalLines.{edits_in}
use Rattle.bt_history.specs.Changes.{given, edition, IsDemandAfter}

-- whether ends are those of a link
abbrev is_its : Link → TermNo → TermNo → Bool
is_its link from to = from.0 == link.from.0 && to.0 == link.to.0

-- whether a change gives to a link
abbrev gives : Change → Link → Bool
gives one link = nat_lt 0 (given (is_its link) one)

-- one where it does
abbrev gift : Link → Change → ℕ
gift link one = if gives one link then 1 else 0

-- no two links have the same ends
apart : (links : List Link) (from to : TermNo) → IsDemand links → AllPairs (λ a b. is_its a from to ≡ true → is_its b from to ≡ true → ⊥) links
apart links from to demand i j d before within one other =
    let a = get_or links i d in
    let b = get_or links j d in
    let order = demand.ordered i j d before within in
    let from_a : from.0 ≡ a.from.0 = grind (arith, nat_tests, one) in
    let to_a : to.0 ≡ a.to.0 = grind (arith, nat_tests, one) in
    let from_b : from.0 ≡ b.from.0 = grind (arith, nat_tests, other) in
    let to_b : to.0 ≡ b.to.0 = grind (arith, nat_tests, other) in
    let less : a.to.0 < b.to.0 = order.to (sym from_a ∙ from_b) in
    omega (arith, less, to_a, to_b)

-- what is given to a link is given by its ends
by_its_ends : (test : Bool) (units : ℕ) → nat_lt 0 (if test then units else 0) ≡ true → test ≡ true
by_its_ends true units some = refl
by_its_ends false units some = some

-- a change gives to one link at most, and an edit it is
gives_once : (links : List Link) (from to : TermNo) (units : ℕ) → IsDemand links → sum_by (λ link. if nat_lt 0 (if is_its link from to then units else 0) then 1 else 0) links ≤ 1
gives_once links from to units demand =
    sum_by-one_passes (λ (link : Link). nat_lt 0 (if is_its link from to then units else 0)) 1 links
    (λ i j d before within one other.
    apart links from to demand i j d before within (by_its_ends (is_its (get_or links i d) from to) units one) (by_its_ends (is_its (get_or links j d) from to) units other))

gives_none : (links : List Link) (one : Change) → ((link : Link) → gives one link ≡ false) → sum_by (λ link. gift link one) links ≡ 0
gives_none links one none = sum_by-none_passes (gives one) 1 links (λ k d within. none (get_or links k d))

one_gift : (links : List Link) (one : Change) → IsDemand links → sum_by (λ link. gift link one) links ≤ edits_in one
one_gift links (change.Edit (Add from to units)) demand = gives_once links from to units demand
one_gift links (change.Edit (Drop from to units)) demand = omega (arith, gives_none links (change.Edit (Drop from to units)) (λ link. refl))
one_gift links (change.Edit (Move from to new_from new_to units)) demand = gives_once links new_from new_to units demand
one_gift links (change.Install plan) demand = omega (arith, gives_none links (change.Install plan) (λ link. refl))
one_gift links (change.Order order) demand = omega (arith, gives_none links (change.Order order) (λ link. refl))

-- where something is given in all, some change gives
some_gift : (link : Link) (changes : List Change) → 1 ≤ sum_by (given (is_its link)) changes → 1 ≤ sum_by (gift link) changes
some_gift link [] some = absurd (omega (arith, some))
some_gift link (one ∷ changes) some = ⊎_elim
    (λ (yes : gives one link ≡ true).
    let here : gift link one ≡ 1 = ap (λ (b : Bool). let n : ℕ = if b then 1 else 0 in n) yes in
    omega (arith, here, sum_by-cons (gift link) one changes))
    (λ (no : gives one link ≡ false).
    let none : given (is_its link) one ≡ 0 = grind (arith, nat_tests, no) in
    omega (arith, sum_by-cons (gift link) one changes, some_gift link changes (omega (arith, some, none, sum_by-cons (given (is_its link)) one changes))))
    (cases_Bool (gives one link))

own_ends : (link : Link) → is_its link link.from link.to ≡ true
own_ends link = grind (arith, nat_tests)

-- each link of the demand was given something
each_given : (changes : List Change) (links : List Link) → IsDemandAfter changes links → All (λ link. 1 ≤ sum_by (gift link) changes) links
each_given changes links is k d within =
    let link = get_or links k d in
    let share = λ (l : Link). let s : ℕ = if is_its link l.from l.to then l.units else 0 in s in
    let own : share link ≡ link.units = ap (λ (b : Bool). let s : ℕ = if b then link.units else 0 in s) (own_ends link) in
    let some = (is.demand.each k d within).some in
    let held = is.slots (is_its link) in
    some_gift link changes (omega (arith, own, some, held, get_or-le-sum_by share links k d within))

ones : {X : Type 0} (xs : List X) → sum_by (λ (x : X). 1) xs ≡ length xs
ones [] = refl
ones (x ∷ xs) = omega (arith, sum_by-cons (λ (y : _). 1) x xs, ones xs)

-- so there are as many edits as links
pub fewest_edits : (changes : List Change) (links : List Link) → IsDemandAfter changes links → length links ≤ edition changes
fewest_edits changes links is =
    let each = sum_by-le-within (λ (link : Link). 1) (λ (link : Link). sum_by (gift link) changes) links (each_given changes links is) in
    let exchanged = sum_by-exchange gift links changes in
    let once = sum_by-le-within (λ (one : Change). sum_by (λ (link : Link). gift link one) links) edits_in changes (λ k d within. one_gift links (get_or changes k d) is.demand) in
    omega (arith, ones links, each, exchanged, once)
