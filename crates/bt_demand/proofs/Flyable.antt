-- Plans that can be flown: good plans of few slots are, and what they and the bursts of each terminal are bounded by.
use Rattle.std.proofs.Common.{◌≡◌, ◌⊎◌, ℕ, ◌<◌, ◌≤◌, ◌==◌, ◌&&◌, if◌then◌else◌, true, List, [], ◌∷◌, length, get_or, All, AllPairs, refl, sym, ◌∙◌, ap, arith, inl, inr}
use Rattle.std.proofs.lemmas.Bool.{cases_lt, eqb-true, eq-eqb}
use Rattle.std.proofs.lemmas.Bool.Decides.{nat_tests}
use Rattle.std.proofs.lemmas.List.Elements.{All-head, All-tail, All-filter, filter_passes}
use Rattle.std.proofs.lemmas.List.Kept.{AllPairs-filter}
use Rattle.std.proofs.lemmas.List.Sums.{sum_by-cons, get_or-le-sum_by, length-filter}
use Rattle.bt_frame.proofs.Counts.{sum_by-places_differ, sum_by-none}
use Rattle.bt_frame.specs.declared.mode.Mode.{Mode}
use Rattle.bt_frame.specs.declared.numbers.TermNo.{TermNo}
use Rattle.bt_frame.specs.Range.{IsWithin}
use Rattle.bt_frame.proofs.OneNumber.{same_terminal}
use Rattle.bt_net.specs.Network.{Net}
use Rattle.bt_net.specs.Terminals.{IsTerminal, beam_at}
use Rattle.bt_matrix.specs.Good.{total_duration}
use Rattle.bt_demand.specs.declared.burst.Burst.{Burst}
use Rattle.bt_demand.specs.declared.demand.Link.{Link}
use Rattle.bt_demand.specs.declared.plan.Plan.{Plan}
use Rattle.bt_demand.specs.Apart.{Collide, bursts_from, slots_sent}
use Rattle.bt_demand.specs.Burst.{IsNotAfter}
use Rattle.bt_demand.specs.Demand.{units_of}
use Rattle.bt_demand.specs.Flyable.{IsFlyable, IsSentBy}
use Rattle.bt_demand.specs.Plan.{empty_plan, IsHeld, IsGoodPlan}
use Rattle.bt_demand.specs.Traffic.{AreOfNetwork}
use Rattle.bt_demand.proofs.BurstTriples.{bursts_apart, occurrences-all_triples, held_within}

-- ends beyond the network's terminals are not those of a link or burst between them
pub share_outside : (a b from to most units : ℕ) → a < most → b < most → (most ≤ from) ⊎ (most ≤ to) → (if a == from && b == to then units else 0) ≡ 0
share_outside a b from to most units sends receives (inl past) = grind (arith, nat_tests)
share_outside a b from to most units sends receives (inr past) = grind (arith, nat_tests)

-- no link between the network's terminals asks for slots beyond them
pub units_outside : (net : Net) (links : List Link) → AreOfNetwork net links → (from to : TermNo)
    → (length net.terminals ≤ from.0) ⊎ (length net.terminals ≤ to.0) → units_of links from to ≡ 0
units_outside net links of_network from to outside =
    sum_by-none (λ (link : Link). if link.from.0 == from.0 && link.to.0 == to.0 then link.units else 0) links
    (λ k d within. let link = get_or links k d in let ends = of_network k d within in
    share_outside link.from.0 link.to.0 from.0 to.0 (length net.terminals) link.units ends.0 ends.1 outside)

-- a burst's slots are among those of its link
own_slots : (bursts : List Burst) (k : ℕ) (d : Burst) → k < length bursts
    → (get_or bursts k d).length ≤ slots_sent bursts (get_or bursts k d).from (get_or bursts k d).to
own_slots bursts k d within =
    let burst = get_or bursts k d in
    let part = λ (b : Burst). let slots : ℕ = if b.from.0 == burst.from.0 && b.to.0 == burst.to.0 then b.length else 0 in slots in
    let here : part burst ≡ burst.length = rw (eq-eqb burst.from.0 burst.from.0 refl, eq-eqb burst.to.0 burst.to.0 refl) refl in
    omega (arith, here, get_or-le-sum_by part bursts k d within)

-- each burst of a good plan that has slots is between terminals of the network
between : (net : Net) (links : List Link) (plan : Plan) → AreOfNetwork net links → IsGoodPlan net links plan
    → All (λ burst. IsTerminal net burst.from × IsTerminal net burst.to) plan.bursts
between net links plan of_network good k d within =
    let burst = get_or plan.bursts k d in
    let some = (good.carries.held k d within).some in
    let sent = occurrences-all_triples plan.bursts burst.from burst.to in
    let wanted = good.carries.carried.served burst.from burst.to in
    let own = own_slots plan.bursts k d within in
    let outside = λ (past : (length net.terminals ≤ burst.from.0) ⊎ (length net.terminals ≤ burst.to.0)).
    let none = units_outside net links of_network burst.from burst.to past in
    let false : ⊥ = omega (arith, some, sent, wanted, own, none) in false in (
      elim (cases_lt burst.from.0 (length net.terminals)) [ inl sends ↦ sends | inr past ↦ absurd (outside (inl past)) ],
      elim (cases_lt burst.to.0 (length net.terminals)) [ inl receives ↦ receives | inr past ↦ absurd (outside (inr past)) ],
    )

-- A good plan of few slots can be flown.
pub flyable : (net : Net) (links : List Link) (plan : Plan) → AreOfNetwork net links → IsGoodPlan net links plan → plan.schedule.length ≤ 4096 → IsFlyable net plan
flyable net links plan of_network good short = record {
  permutations = good.carries.permutations;
  durations = good.carries.durations;
  filled = good.carries.filled;
  short = short;
  between = between net links plan of_network good;
  apart = bursts_apart net plan.bursts good.carries.carried.apart;
  held = good.carries.held;
}

-- modes that last are no more than their slots
as_many_slots : (modes : List Mode) → All (λ (mode : Mode). 0 < mode.duration) modes → length modes ≤ total_duration modes
as_many_slots [] last = omega arith
as_many_slots (mode ∷ rest) last =
    let one : 0 < mode.duration = All-head (λ (m : Mode). 0 < m.duration) mode rest last in
    let more = as_many_slots rest (All-tail (λ (m : Mode). 0 < m.duration) mode rest last) in
    omega (arith, sum_by-cons (λ (m : Mode). m.duration) mode rest)

pub few_modes : (net : Net) (plan : Plan) → IsFlyable net plan → length plan.schedule.modes ≤ 4096
few_modes net plan is = omega (arith, as_many_slots plan.schedule.modes is.durations, is.filled, is.short)

-- each mode lasts for some slots of the frame
pub small_modes : (net : Net) (plan : Plan) → IsFlyable net plan → All (λ mode. IsWithin 1 4096 mode.duration) plan.schedule.modes
small_modes net plan is k d within =
    let modes = plan.schedule.modes in
    let some = is.durations k d within in
    let all = get_or-le-sum_by (λ (m : Mode). m.duration) modes k d within in
    (omega (arith, some), omega (arith, all, is.filled, is.short))

-- what a terminal sends is within the frame, and to a terminal of the network
pub sent_by : (net : Net) (plan : Plan) (terminal : TermNo) → IsFlyable net plan → All (IsSentBy net terminal) (bursts_from terminal plan.bursts)
sent_by net plan terminal is k d within =
    let test = λ (burst : Burst). burst.from.0 == terminal.0 in
    let own = bursts_from terminal plan.bursts in
    let burst = get_or own k d in
    let ends = All-filter test (λ (b : Burst). IsTerminal net b.from × IsTerminal net b.to) plan.bursts is.between k d within in
    let held = All-filter test (IsHeld net plan.schedule.modes) plan.bursts is.held k d within in
    let over = held_within net plan.schedule.modes burst held in
    record {
      sender = same_terminal burst.from terminal (eqb-true _ _ (filter_passes test plan.bursts k d within));
      receiver = ends.1;
      start = (omega arith, omega (arith, over, is.filled, is.short, held.some));
      slots = (omega (arith, held.some), omega (arith, over, is.filled, is.short));
    }

-- two bursts of one terminal that do not meet begin in different slots
begin_apart : (net : Net) (a b : Burst) (terminal : TermNo) → 0 < a.length → 0 < b.length → ¬ (Collide net a b)
    → (a.from.0 == terminal.0) ≡ true → (b.from.0 == terminal.0) ≡ true → a.start ≡ b.start → ⊥
begin_apart net a b terminal first second apart of_a of_b same =
    let sender : a.from ≡ b.from = same_terminal a.from terminal (eqb-true _ _ of_a) ∙ sym (same_terminal b.from terminal (eqb-true _ _ of_b)) in
    apart (record {
      slot = a.start;
      first = record { from_start = omega arith; before_end = omega arith };
      second = record { from_start = omega arith; before_end = omega arith };
      beam = inl (ap (beam_at net) sender);
    })

-- so a terminal sends no more bursts than a frame can have slots
pub few_bursts : (net : Net) (plan : Plan) (terminal : TermNo) → IsFlyable net plan → length (bursts_from terminal plan.bursts) ≤ 4096
few_bursts net plan terminal is =
    let test = λ (burst : Burst). burst.from.0 == terminal.0 in
    let counted = sum_by-places_differ test (λ (b : Burst). b.start) 4096 plan.bursts
    (λ i j d lt within of_a of_b same.
    begin_apart net (get_or plan.bursts i d) (get_or plan.bursts j d) terminal (is.held i d (omega arith)).some (is.held j d within).some (is.apart i j d lt within) of_a of_b same)
    (λ k d within.
    let held = is.held k d within in
    omega (arith, held_within net plan.schedule.modes (get_or plan.bursts k d) held, held.some, is.filled, is.short)) in
    omega (arith, counted, length-filter test plan.bursts)

-- and they stand in order
pub in_order : (bursts : List Burst) (terminal : TermNo) → AllPairs IsNotAfter bursts → AllPairs IsNotAfter (bursts_from terminal bursts)
in_order bursts terminal ordered = AllPairs-filter IsNotAfter (λ (burst : Burst). burst.from.0 == terminal.0) bursts ordered

-- the empty plan can be flown
pub empty_flies : (net : Net) → IsFlyable net empty_plan
empty_flies net = record {
  permutations = λ k d within. absurd (omega arith);
  durations = λ k d within. absurd (omega arith);
  filled = refl;
  short = omega arith;
  between = λ k d within. absurd (omega arith);
  apart = λ i j d lt within. absurd (omega arith);
  held = λ k d within. absurd (omega arith);
}
