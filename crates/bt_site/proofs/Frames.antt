-- Every frame is safe.
use Rattle.std.proofs.Common.{◌≡◌, ◌≢◌, ◌⊎◌, inl, inr, ℕ, zero, suc, ◌+◌, ◌<◌, ◌==◌, if◌then◌else◌, Bool, true, false, List, [], ◌∷◌, length, map, filter, All, AllPairs, Option, Some, None, IfSome, refl, sym, ◌∙◌, ap, arith, subst}
use Rattle.std.specs.List.{flat_map, range_with_len, Contains}
use Rattle.std.specs.List.Sorted.{IsPermutation}
use Rattle.std.proofs.lemmas.Bool.Decides.{nat_tests}
use Rattle.std.proofs.lemmas.List.Elements.{All-nil, All-cons, All-append, All-head, All-tail, All-filter, All-contains_itself, filter_passes}
use Rattle.std.proofs.lemmas.List.Kept.{AllPairs-filter}
use Rattle.std.proofs.lemmas.List.Sorted.{All-permutation}
use Rattle.bt_frame.proofs.OneNumber.{numbered}
use Rattle.bt_frame.specs.declared.numbers.EditionNo.{EditionNo}
use Rattle.bt_frame.specs.declared.numbers.TermNo.{TermNo}
use Rattle.bt_net.specs.Network.{Net}
use Rattle.bt_demand.specs.declared.burst.Burst.{Burst}
use Rattle.bt_demand.specs.declared.plan.Plan.{Plan}
use Rattle.bt_demand.specs.Plan.{IsHeld, ShareABeam, Meet, all_triples}
use Rattle.bt_demand.specs.Apart.{Collide, AreApart}
use Rattle.bt_site.specs.Event.{Opening, Event}
use Rattle.bt_site.specs.World.{plans, heard, held, terminals, log}
use Rattle.bt_machines.specs.Plans.{plan_of, modes_of, bursts_for}
use Rattle.bt_machines.specs.declared.burst_bank.Holding.{Holding}
use Rattle.bt_machines.specs.Said.{holds}
use Rattle.bt_site.specs.Air.{fore, where_held, bursts_under, transmits, AreOfPlan, IsAir, IsSafe, AreFlyable}
use Rattle.bt_demand.specs.Flyable.{IsFlyable}
use Rattle.bt_site.specs.Laws.{IsNoneOr}
use Rattle.bt_site.proofs.Heard.{heard-right}
use Rattle.bt_frame.proofs.Pairs.{AllPairs-append}
use Rattle.bt_site.proofs.Pairs.{of_members, AllPairs-permutation}
use Rattle.bt_site.proofs.Triples.{all_switched}
use Rattle.bt_site.proofs.WorldPlans.{plan-holds, plans-flyable}

-- a terminal transmits nothing, or its bursts of the plan in front
held-one : (all : List Plan) (terminal : TermNo) (front : EditionNo) (test : Bool)
    → (bursts_under all terminal (if test then Some front else None) ≡ []) ⊎ (bursts_under all terminal (if test then Some front else None) ≡ bursts_for terminal (plan_of all front))
held-one all terminal front true = inr refl
held-one all terminal front false = inl refl

one-transmits : (all : List Plan) (terminal : TermNo) (all_held : List Holding) (named : Option EditionNo) (front : EditionNo) → IsNoneOr named front
    → (bursts_under all terminal (where_held all_held named) ≡ []) ⊎ (bursts_under all terminal (where_held all_held named) ≡ bursts_for terminal (plan_of all front))
one-transmits all terminal all_held named front (inl none) = inl (ap (λ (n : Option EditionNo). bursts_under all terminal (where_held all_held n)) none)
one-transmits all terminal all_held named front (inr some) = subst
    (λ (n : Option EditionNo). (bursts_under all terminal (where_held all_held n) ≡ []) ⊎ (bursts_under all terminal (where_held all_held n) ≡ bursts_for terminal (plan_of all front)))
    (sym some) (held-one all terminal front (holds all_held front))

pub transmits-front : (o : Opening) (events : List Event) (terminal : TermNo)
    → (transmits o (log o events) terminal ≡ []) ⊎ (transmits o (log o events) terminal ≡ bursts_for terminal (plan_of (plans o (log o events)) (fore o (log o events))))
transmits-front o events terminal =
    let past = log o events in one-transmits (plans o past) terminal (held o past terminal) (heard o past terminal) (fore o past) (heard-right o terminal events)

-- the bursts of a plan, if there is one
abbrev bursts_of : Option Plan → List Burst
bursts_of None = []
bursts_of (Some plan) = plan.bursts

abbrev of_terminal : List Burst → TermNo → List Burst
of_terminal bursts terminal = filter (λ (burst : Burst). burst.from.0 == terminal.0) bursts

bursts_for-filter : (terminal : TermNo) (plan : Option Plan) → bursts_for terminal plan ≡ of_terminal (bursts_of plan) terminal
bursts_for-filter terminal None = refl
bursts_for-filter terminal (Some plan) = refl

-- a burst of the list that this terminal transmits, or another one
record IsMine (bursts : List Burst) (terminal : TermNo) (burst : Burst) : Type 0 where
  among : Contains bursts burst
  from : burst.from.0 ≡ terminal.0

record IsOther (bursts : List Burst) (terminal : TermNo) (burst : Burst) : Type 0 where
  among : Contains bursts burst
  from : burst.from.0 ≢ terminal.0

same-number : (a b : ℕ) → (a == b) ≡ true → a ≡ b
same-number a b e = grind (arith, nat_tests)

all-mine : (bursts : List Burst) (terminal : TermNo) → All (IsMine bursts terminal) (of_terminal bursts terminal)
all-mine bursts terminal k d within =
    let test = λ (burst : Burst). burst.from.0 == terminal.0 in
    record {
      among = All-filter test (Contains bursts) bursts (All-contains_itself bursts) k d within;
      from = same-number _ terminal.0 (filter_passes test bursts k d within);
    }

-- each number once
abbrev AreDistinct : List TermNo → Type 0
AreDistinct [] = Unit {0}
AreDistinct (terminal ∷ rest) = All (λ (other : TermNo). other.0 ≢ terminal.0) rest × AreDistinct rest

later-differ : (a b n : ℕ) → a < b → All (λ (other : TermNo). other.0 ≢ a) (map numbered (range_with_len b n))
later-differ a b zero lt = All-nil (λ (other : TermNo). other.0 ≢ a)
later-differ a b (suc n) lt = All-cons (λ (other : TermNo). other.0 ≢ a) (numbered b) (map numbered (range_with_len (b + 1) n)) (omega arith) (later-differ a (b + 1) n (omega arith))

numbers-distinct : (a n : ℕ) → AreDistinct (map numbered (range_with_len a n))
numbers-distinct a zero = tt
numbers-distinct a (suc n) = (later-differ a (a + 1) n (omega arith), numbers-distinct (a + 1) n)

-- of a list of bursts, each terminal transmits all of its own or none
module _ (bursts : List Burst) (sends : TermNo → List Burst) (each : (terminal : TermNo) → (sends terminal ≡ []) ⊎ (sends terminal ≡ of_terminal bursts terminal)) where
  mine : (terminal : TermNo) → All (IsMine bursts terminal) (sends terminal)
  mine terminal = elim (each terminal) [
    | inl none ↦ subst (All (IsMine bursts terminal)) (sym none) (All-nil (IsMine bursts terminal))
    | inr all ↦ subst (All (IsMine bursts terminal)) (sym all) (all-mine bursts terminal)
  ]

  others : (terminal : TermNo) (rest : List TermNo) → All (λ (other : TermNo). other.0 ≢ terminal.0) rest → All (IsOther bursts terminal) (flat_map sends rest)
  others terminal [] differ = All-nil (IsOther bursts terminal)
  others terminal (other ∷ rest) differ =
      let apart : other.0 ≢ terminal.0 = All-head (λ (one : TermNo). one.0 ≢ terminal.0) other rest differ in
      All-append (IsOther bursts terminal) (sends other) (flat_map sends rest)
      (λ k d within. let one = mine other k d within in record { among = one.among; from = λ e. apart (sym one.from ∙ e) })
      (others terminal rest (All-tail (λ (one : TermNo). one.0 ≢ terminal.0) other rest differ))

  pub all-kept : (P : Burst → Type 0) → All P bursts → (list : List TermNo) → All P (flat_map sends list)
  all-kept P all [] = All-nil P
  all-kept P all (terminal ∷ rest) = All-append P (sends terminal) (flat_map sends rest) (elim (each terminal) [
    | inl none ↦ subst (All P) (sym none) (All-nil P)
    | inr own ↦ subst (All P) (sym own) (All-filter (λ (burst : Burst). burst.from.0 == terminal.0) P bursts all)
  ]) (all-kept P all rest)

  pub pairs-kept : (R : Burst → Burst → Type 0) → ((a b : Burst) → R a b → R b a) → AllPairs R bursts → (list : List TermNo) → AreDistinct list → AllPairs R (flat_map sends list)
  pairs-kept R back pairs [] distinct = λ i j d lt within. absurd (omega arith)
  pairs-kept R back pairs (terminal ∷ rest) distinct = AllPairs-append R (sends terminal) (flat_map sends rest)
      (elim (each terminal) [
        | inl none ↦ subst (AllPairs R) (sym none) (λ i j d lt within. absurd (omega arith))
        | inr own ↦ subst (AllPairs R) (sym own) (AllPairs-filter R (λ (burst : Burst). burst.from.0 == terminal.0) bursts pairs)
      ])
      (pairs-kept R back pairs rest distinct.1)
      (λ k d within l e within_rest.
      let one = mine terminal k d within in
      let two = others terminal rest distinct.0 l e within_rest in
      of_members R back bursts pairs _ _ (λ same. two.from (sym (ap (λ (burst : Burst). burst.from.0) same) ∙ one.from)) one.among two.among)

-- bursts that do not meet, in either order
share-back : (net : Net) (a b : Burst) → ShareABeam net a.from a.to b.from b.to → ShareABeam net b.from b.to a.from a.to
share-back net a b (inl up) = inl (sym up)
share-back net a b (inr down) = inr (sym down)

apart-back : (net : Net) (a b : Burst) → (Collide net a b → ⊥) → Collide net b a → ⊥
apart-back net a b apart collide = apart (record { slot = collide.slot; first = collide.second; second = collide.first; beam = share-back net b a collide.beam })

-- the plan in front, if there is one
front-apart : (net : Net) (plan : Option Plan) → IfSome plan (IsFlyable net) → AreApart net (bursts_of plan)
front-apart net None flyable = λ i j d lt within. absurd (omega arith)
front-apart net (Some plan) flyable = flyable.apart

front-held : (net : Net) (plan : Option Plan) → IfSome plan (IsFlyable net) → All (IsHeld net (modes_of plan)) (bursts_of plan)
front-held net None flyable = All-nil (IsHeld net [])
front-held net (Some plan) flyable = flyable.held

own-or-none : (sent : List Burst) (terminal : TermNo) (plan : Option Plan) → (sent ≡ []) ⊎ (sent ≡ bursts_for terminal plan) → (sent ≡ []) ⊎ (sent ≡ of_terminal (bursts_of plan) terminal)
own-or-none sent terminal plan (inl none) = inl none
own-or-none sent terminal plan (inr own) = inr (own ∙ bursts_for-filter terminal plan)

-- bursts of one plan, of which each terminal transmits its own or none, where bursts that are apart spell triples that are
pub of_plan-safe : ((net : Net) (list : List Burst) → AreApart net list → AllPairs (λ a b. ¬ (Meet net a b)) (all_triples list))
    → (o : Opening) (front : Option Plan) (sends : TermNo → List Burst) (bursts : List Burst) → IfSome front (IsFlyable o.net)
    → AreOfPlan front sends → IsPermutation (flat_map sends (terminals o)) bursts → IsSafe o.net (modes_of front) bursts
of_plan-safe spell o front sends bursts flies own of_all =
    let each : (terminal : TermNo) → (sends terminal ≡ []) ⊎ (sends terminal ≡ of_terminal (bursts_of front) terminal)
    = λ terminal. own-or-none (sends terminal) terminal front (own terminal) in
    let all = flat_map sends (terminals o) in
    let Apart = λ (a b : Burst). Collide o.net a b → ⊥ in
    let pairs = pairs-kept (bursts_of front) sends each Apart (apart-back o.net) (front-apart o.net front flies) (terminals o) (numbers-distinct 0 (length o.net.terminals)) in
    let held = all-kept (bursts_of front) sends each (IsHeld o.net (modes_of front)) (front-held o.net front flies) (terminals o) in
    record {
      apart = spell o.net bursts (AllPairs-permutation Apart (apart-back o.net) all bursts of_all pairs);
      switched = all_switched o.net (modes_of front) bursts (All-permutation (IsHeld o.net (modes_of front)) all bursts of_all held);
    }

-- every frame
pub frame-safe : ((net : Net) (list : List Burst) → AreApart net list → AllPairs (λ a b. ¬ (Meet net a b)) (all_triples list))
    → (o : Opening) (events : List Event) (bursts : List Burst) → AreFlyable o events → IsAir o (log o events) bursts
    → IsSafe o.net (modes_of (plan_of (plans o (log o events)) (fore o (log o events)))) bursts
frame-safe spell o events bursts flyable air =
    let past = log o events in
    of_plan-safe spell o (plan_of (plans o past) (fore o past)) (transmits o past) bursts
    (plan-holds (IsFlyable o.net) (plans o past) (fore o past) (plans-flyable o events flyable)) (transmits-front o events) air.of_all
