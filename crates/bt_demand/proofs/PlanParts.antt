-- A plan is good by its modes and its bursts, and a good plan has such modes and bursts.
use Rattle.std.proofs.Common.{◌⊎◌, ◌<◌, ◌≤◌, ◌==◌, ◌&&◌, if◌then◌else◌, List, length, get_or, All, sym, ◌∙◌, arith, inl, inr}
use Rattle.std.proofs.lemmas.Bool.{cases_lt}
use Rattle.bt_frame.proofs.Counts.{sum_by-none}
use Rattle.bt_frame.specs.declared.numbers.TermNo.{TermNo}
use Rattle.bt_net.specs.Network.{Net}
use Rattle.bt_demand.specs.declared.burst.Burst.{Burst}
use Rattle.bt_demand.specs.declared.demand.Link.{Link}
use Rattle.bt_demand.specs.declared.plan.Plan.{Plan}
use Rattle.bt_demand.specs.Demand.{IsDemand}
use Rattle.bt_demand.specs.Plan.{all_triples, Carries, IsHeld, IsGoodPlan}
use Rattle.bt_demand.specs.PlanVerdict.{AreApart, IsServed, HasGoodModes, AreBetweenTerminals}
use Rattle.bt_demand.specs.Traffic.{AreOfNetwork}
use Rattle.bt_demand.proofs.Flyable.{share_outside, units_outside}
use Rattle.bt_demand.proofs.Triples.{line_sum-le-slots}
use Rattle.bt_demand.proofs.BurstTriples.{triples_apart, bursts_apart, All-all_triples, occurrences-all_triples, held_within}

-- no link asks for slots beyond the network's terminals, and no burst sends any
served_outside : (net : Net) (links : List Link) (bursts : List Burst) → AreOfNetwork net links → AreBetweenTerminals net bursts → (from to : TermNo)
    → (length net.terminals ≤ from.0) ⊎ (length net.terminals ≤ to.0) → IsServed links bursts from to
served_outside net links bursts of_network between from to outside =
    let n = length net.terminals in
    let units = units_outside net links of_network from to outside in
    let slots = sum_by-none (λ (burst : Burst). if burst.from.0 == from.0 && burst.to.0 == to.0 then burst.length else 0) bursts
    (λ k d within. let burst = get_or bursts k d in let ends = between k d within in
    share_outside burst.from.0 burst.to.0 from.0 to.0 n burst.length ends.0 ends.1 outside) in
    slots ∙ sym units

-- all links are served, where those between the network's terminals are
pub all_served : (net : Net) (links : List Link) (bursts : List Burst) → AreOfNetwork net links → AreBetweenTerminals net bursts
    → ((from to : TermNo) → from.0 < length net.terminals → to.0 < length net.terminals → IsServed links bursts from to)
    → (from to : TermNo) → IsServed links bursts from to
all_served net links bursts of_network between inside from to = elim (cases_lt from.0 (length net.terminals)) [
  | inl sends ↦ elim (cases_lt to.0 (length net.terminals)) [
    | inl receives ↦ inside from to sends receives
    | inr past ↦ served_outside net links bursts of_network between from to (inr past)
  ]
  | inr past ↦ served_outside net links bursts of_network between from to (inl past)
]

-- bursts that lie within modes, do not meet and serve each link carry the demand
pub bursts_carry : (net : Net) (links : List Link) (plan : Plan) → HasGoodModes net links plan.schedule → AreApart net plan.bursts
    → All (IsHeld net plan.schedule.modes) plan.bursts → ((from to : TermNo) → IsServed links plan.bursts from to)
    → Carries net links plan.schedule.length (all_triples plan.bursts)
bursts_carry net links plan modes apart held served = record {
  apart = triples_apart net plan.bursts apart;
  within = All-all_triples (λ t. t.slot < plan.schedule.length) plan.bursts (λ k d within slot covers.
      omega (arith, covers.before_end, held_within net plan.schedule.modes (get_or plan.bursts k d) (held k d within), modes.filled));
  served = λ from to. occurrences-all_triples plan.bursts from to ∙ served from to;
}

-- A plan is good by its parts.
pub good_by_parts : (net : Net) (links : List Link) (plan : Plan) → IsDemand links → AreOfNetwork net links → AreBetweenTerminals net plan.bursts
    → HasGoodModes net links plan.schedule → AreApart net plan.bursts → All (IsHeld net plan.schedule.modes) plan.bursts
    → ((from to : TermNo) → from.0 < length net.terminals → to.0 < length net.terminals → IsServed links plan.bursts from to)
    → IsGoodPlan net links plan
good_by_parts net links plan is of_network between modes apart held served = record {
  carries = record {
    permutations = modes.permutations;
    durations = modes.durations;
    filled = modes.filled;
    carried = bursts_carry net links plan modes apart held (all_served net links plan.bursts of_network between served);
    held = held;
  };
  least = record {
    on_matrix = modes.least.on_matrix;
    reached = modes.least.reached;
    shortest = λ triples slots carried.
        let le = line_sum-le-slots net links triples slots plan.schedule.critical is carried modes.least.on_matrix in
        omega (arith, le, modes.least.reached);
  };
}

-- The modes of a good plan are good.
pub good_modes : (net : Net) (links : List Link) (plan : Plan) → IsDemand links → IsGoodPlan net links plan → HasGoodModes net links plan.schedule
good_modes net links plan is good = record {
  permutations = good.carries.permutations;
  durations = good.carries.durations;
  filled = good.carries.filled;
  least = record {
    on_matrix = good.least.on_matrix;
    reached = good.least.reached;
    greatest = λ line on_matrix. line_sum-le-slots net links (all_triples plan.bursts) plan.schedule.length line is good.carries.carried on_matrix;
  };
}

-- its bursts do not meet
pub good_apart : (net : Net) (links : List Link) (plan : Plan) → IsGoodPlan net links plan → AreApart net plan.bursts
good_apart net links plan good = bursts_apart net plan.bursts good.carries.carried.apart

-- and serve each link
pub good_served : (net : Net) (links : List Link) (plan : Plan) → IsGoodPlan net links plan → (from to : TermNo) → IsServed links plan.bursts from to
good_served net links plan good from to = sym (occurrences-all_triples plan.bursts from to) ∙ good.carries.carried.served from to
