-- A burst has a mark exactly where it meets one before it.
use Rattle.std.proofs.Common.{refl, arith, ◌≡◌, ◌≢◌, ◌⊎◌, inl, inr, ℕ, zero, suc, ◌-◌, ◌<◌, ◌≤◌, ◌==◌, ◌&&◌, Bool, true, false, if◌then◌else◌, max, min, nat_lt, List, [], ◌∷◌, length, get_or, take, Option, Some, None, is_some, option_map, unwrap_or, ap, sym, ◌∙◌}
use Rattle.std.specs.List.{fold}
use Rattle.std.proofs.lemmas.Bool.{eqb-true, eq-eqb, lt-ltb, ltb-true}
use Rattle.std.proofs.lemmas.List.{get_or-take, length-take-le}
use Rattle.std.proofs.Math.Nat.{le_trans, le-max_left, le-max_right}
use Rattle.bt_frame.specs.declared.numbers.BeamNo.{BeamNo}
use Rattle.bt_net.specs.Network.{Net}
use Rattle.bt_demand.specs.declared.burst.Burst.{Burst}
use Rattle.bt_demand.specs.declared.plan.Plan.{Plan}
use Rattle.bt_demand.specs.Apart.{AreBetweenTerminals}
use Rattle.bt_demand.specs.Burst.{AreBursts}
use Rattle.bt_picture.specs.Picture.{Part}
use Rattle.bt_plan_chart.specs.declared.choice.Choice.{Choice}
use Rattle.bt_plan_chart.specs.declared.choice.SlotRange.{SlotRange}
use Rattle.bt_plan_chart.specs.declared.scale.Direction.{Direction}
use Rattle.bt_plan_chart.specs.declared.scale.Direction.TheVariants.{Up, Down}
use Rattle.bt_plan_chart.specs.declared.scale.Scale.{Scale}
use Rattle.bt_plan_chart.specs.Chart.{clash_part, clash_parts_at, latest_end, no_burst}
use Rattle.bt_plan_chart.specs.Marks.{IsMarked, MeetsOneBefore, MeetsOneDrawn}
use Rattle.bt_plan_chart.specs.Overlap.{MeetIn}
use Rattle.bt_plan_chart.specs.Scale.{beam_number, end_of, end_shown, first_shown, is_drawn, is_shown, scale_of, terminal_of, whole}
use Rattle.bt_plan_chart.proofs.Overlaps.{collide_in, meets_drawn, of_net, same_beam}
use Rattle.bt_plan_chart.proofs.Shown.{and_left, and_right, both, first_from, first_is_shown, first_of, first_under, shown_with}

-- the latest end in a lane, with a burst more
abbrev later : Net → Direction → ℕ → ℕ → Burst → ℕ
later net direction lane latest burst = if beam_number net (terminal_of direction burst) == lane then max latest (end_of burst) else latest

no_less : (test : Bool) (a b : ℕ) → a ≤ (if test then max a b else a)
no_less true a b = le-max_left a b
no_less false a b = omega arith

counted_in : (test : Bool) (a b : ℕ) → test ≡ true → b ≤ (if test then max a b else a)
counted_in true a b told = le-max_right a b
counted_in false a b told = cc

grows : (net : Net) (direction : Direction) (lane a : ℕ) (bursts : List Burst) → a ≤ fold (later net direction lane) a bursts
grows net direction lane a [] = omega arith
grows net direction lane a (burst ∷ rest) =
    le_trans (no_less (beam_number net (terminal_of direction burst) == lane) a (end_of burst)) (grows net direction lane (later net direction lane a burst) rest)

-- no end in the lane is later
reaches : (net : Net) (direction : Direction) (lane a : ℕ) (bursts : List Burst) (k : ℕ) → k < length bursts → beam_number net (terminal_of direction (get_or bursts k no_burst)) ≡ lane
    → end_of (get_or bursts k no_burst) ≤ fold (later net direction lane) a bursts
reaches net direction lane a [] k within same = absurd (omega (arith, within))
reaches net direction lane a (burst ∷ rest) zero within same =
    let on = beam_number net (terminal_of direction burst) in
    le_trans (counted_in (on == lane) a (end_of burst) (eq-eqb on lane same)) (grows net direction lane (later net direction lane a burst) rest)
reaches net direction lane a (burst ∷ rest) (suc k) within same = reaches net direction lane (later net direction lane a burst) rest k (omega (arith, within)) same

-- some burst of the lane ends behind a slot
abbrev EndsBehind : Net → Direction → ℕ → ℕ → List Burst → Type 0
EndsBehind net direction lane slot bursts = (k : ℕ) × (k < length bursts) × (beam_number net (terminal_of direction (get_or bursts k no_burst)) ≡ lane) × (slot < end_of (get_or bursts k no_burst))

either : (test : Bool) (slot a b : ℕ) → slot < (if test then max a b else a) → (slot < a) ⊎ ((test ≡ true) × (slot < b))
either false slot a b under = inl under
either true slot a b under = grind arith

-- the latest end is that of some burst
comes_from : (net : Net) (direction : Direction) (lane slot a : ℕ) (bursts : List Burst) → slot < fold (later net direction lane) a bursts → (slot < a) ⊎ EndsBehind net direction lane slot bursts
comes_from net direction lane slot a [] under = inl under
comes_from net direction lane slot a (burst ∷ rest) under =
    let on = beam_number net (terminal_of direction burst) in
    elim (comes_from net direction lane slot (later net direction lane a burst) rest under) [
      | inl early ↦ elim (either (on == lane) slot a (end_of burst) early) [
        | inl before ↦ inl before
        | inr (told, behind) ↦ inr (zero, omega arith, eqb-true on lane told, behind)
      ]
      | inr (k, in_range, same, behind) ↦ inr (suc k, omega (arith, in_range), same, behind)
    ]

some_part : (test : Bool) (part : Part) → test ≡ true → (if test then part ∷ [] else []) ≢ []
some_part true part told = λ none. cc
some_part false part told = cc

no_part : (test : Bool) (part : Part) → (if test then part ∷ [] else []) ≢ [] → test ≡ true
no_part true part some = refl
no_part false part some = absurd (some refl)

-- two bursts that meet where a direction is drawn: the later one has a mark there
pub marks : (net : Net) (scale : Scale) (direction : Direction) (bursts : List Burst) (k place : ℕ) → k < place → place < length bursts → MeetIn net scale direction (get_or bursts k no_burst) (get_or bursts place no_burst)
    → clash_parts_at net scale direction bursts place ≢ []
marks net scale direction bursts k place before within meet =
    let slot = meet.slot in
    let burst : Burst = get_or bursts place no_burst in
    let a : Burst = get_or bursts k no_burst in
    let lane = beam_number net (terminal_of direction burst) in
    let latest = latest_end net direction (take place bursts) lane in
    let ends = min (end_of burst) latest in
    let same : beam_number net (terminal_of direction a) ≡ lane = ap (λ (beam : Option BeamNo). unwrap_or (option_map (λ (one : BeamNo). one.0) beam) 0) meet.beam in
    let taken : get_or (take place bursts) k no_burst ≡ a = get_or-take place bursts k no_burst before in
    let long : length (take place bursts) ≡ place = length-take-le place bursts (omega (arith, within)) in
    let on : beam_number net (terminal_of direction (get_or (take place bursts) k no_burst)) ≡ lane = ap (λ (b : Burst). beam_number net (terminal_of direction b)) taken ∙ same in
    let reached : end_of (get_or (take place bursts) k no_burst) ≤ latest = reaches net direction lane 0 (take place bursts) k (omega (arith, long, before)) on in
    let end : end_of (get_or (take place bursts) k no_burst) ≡ end_of a = ap end_of taken in
    let under : slot < ends = omega (arith, reached, end, meet.first.before_end, meet.second.before_end) in
    let test = nat_lt burst.start ends in
    let drawn : is_drawn scale lane ≡ true = ap (is_drawn scale) (sym same) ∙ meet.lane in
    let shown : is_shown scale burst.start ends ≡ true = shown_with scale.is_cut scale.begin scale.end slot burst.start ends meet.shown meet.second.from_start under in
    some_part (test && (is_drawn scale lane && is_shown scale burst.start ends)) (clash_part scale direction lane burst.start (ends - burst.start))
    (both test (is_drawn scale lane && is_shown scale burst.start ends) (lt-ltb burst.start ends (omega (arith, under, meet.second.from_start))) (both (is_drawn scale lane) (is_shown scale burst.start ends) drawn shown))

-- a burst that meets one before it where both are drawn has a mark
pub marked_drawn : (net : Net) (scale : Scale) (bursts : List Burst) (place : ℕ) → place < length bursts → MeetsOneDrawn net scale bursts place → IsMarked net scale bursts place
marked_drawn net scale bursts place within (Up, k, before, meet) = inl (marks net scale Up bursts k place before within meet)
marked_drawn net scale bursts place within (Down, k, before, meet) = inr (marks net scale Down bursts k place before within meet)

-- a burst with a mark in a lane meets one before it there
meets : (net : Net) (scale : Scale) (direction : Direction) (bursts : List Burst) (place : ℕ) → (scale.is_cut ≡ true → scale.begin < scale.end) → AreBetweenTerminals net bursts → AreBursts bursts → place < length bursts
    → clash_parts_at net scale direction bursts place ≢ [] → MeetsOneDrawn net scale bursts place
meets net scale direction bursts place forth between are within some =
    let burst : Burst = get_or bursts place no_burst in
    let lane = beam_number net (terminal_of direction burst) in
    let latest = latest_end net direction (take place bursts) lane in
    let ends = min (end_of burst) latest in
    let test = nat_lt burst.start ends in
    let rest = is_drawn scale lane && is_shown scale burst.start ends in
    let told : (test && rest) ≡ true = no_part (test && rest) (clash_part scale direction lane burst.start (ends - burst.start)) some in
    let begun : burst.start < ends = ltb-true burst.start ends (and_left test rest told) in
    let drawn : is_drawn scale lane ≡ true = and_left (is_drawn scale lane) (is_shown scale burst.start ends) (and_right test rest told) in
    let shown : is_shown scale burst.start ends ≡ true = and_right (is_drawn scale lane) (is_shown scale burst.start ends) (and_right test rest told) in
    let slot = first_of scale.is_cut scale.begin burst.start in
    let from : burst.start ≤ slot = first_from scale.is_cut scale.begin burst.start in
    let under : slot < ends = first_under scale.is_cut scale.begin scale.end burst.start ends shown begun in
    let long : length (take place bursts) ≡ place = length-take-le place bursts (omega (arith, within)) in
    elim (comes_from net direction lane slot 0 (take place bursts) (omega (arith, under))) [
      | inl never ↦ absurd (omega (arith, never))
      | inr (k, in_range, on, behind) ↦
          let before : k < place = omega (arith, in_range, long) in
          let taken : get_or (take place bursts) k no_burst ≡ get_or bursts k no_burst = get_or-take place bursts k no_burst before in
          let end : end_of (get_or (take place bursts) k no_burst) ≡ end_of (get_or bursts k no_burst) = ap end_of taken in
          let a : Burst = get_or bursts k no_burst in
          let same : beam_number net (terminal_of direction a) ≡ lane = ap (λ (b : Burst). beam_number net (terminal_of direction b)) (sym taken) ∙ on in
          let order : a.start ≤ burst.start = (are.ordered k place no_burst before within).start in (
            direction,
            k,
            before,
            record {
              slot = slot;
              shown = first_is_shown scale.is_cut scale.begin scale.end burst.start ends forth shown;
              first = record { from_start = omega (arith, order, from); before_end = omega (arith, behind, end) };
              second = record { from_start = from; before_end = omega (arith, under) };
              beam = same_beam net (terminal_of direction a) (terminal_of direction burst)
                  (of_net net direction a (between k no_burst (omega (arith, before, within)))) (of_net net direction burst (between place no_burst within)) same;
              lane = ap (is_drawn scale) same ∙ drawn;
            },
          )
    ]

-- where slots are chosen, there are some
chosen : (span : ℕ) (slots : Option SlotRange) → is_some slots ≡ true → first_shown slots < end_shown span slots
chosen span None none = cc
chosen span (Some range) some = omega arith

pub meets_one_drawn : (net : Net) (plan : Plan) (choice : Choice) (place : ℕ) → AreBetweenTerminals net plan.bursts → AreBursts plan.bursts → place < length plan.bursts
    → IsMarked net (scale_of net plan choice) plan.bursts place → MeetsOneDrawn net (scale_of net plan choice) plan.bursts place
meets_one_drawn net plan choice place between are within (inl up) = meets net (scale_of net plan choice) Up plan.bursts place (chosen _ choice.slots) between are within up
meets_one_drawn net plan choice place between are within (inr down) = meets net (scale_of net plan choice) Down plan.bursts place (chosen _ choice.slots) between are within down

-- in the picture of a whole plan a burst that meets one before it has a mark
pub marked : (net : Net) (plan : Plan) (place : ℕ) → place < length plan.bursts → MeetsOneBefore net plan.bursts place → IsMarked net (scale_of net plan whole) plan.bursts place
marked net plan place within (k, before, meet) = elim (meets_drawn net plan (get_or plan.bursts k no_burst) (get_or plan.bursts place no_burst) meet) [
  | inl up ↦ inl (marks net (scale_of net plan whole) Up plan.bursts k place before within up)
  | inr down ↦ inr (marks net (scale_of net plan whole) Down plan.bursts k place before within down)
]

-- and one with a mark meets one before it
pub meets_one : (net : Net) (scale : Scale) (bursts : List Burst) (place : ℕ) → MeetsOneDrawn net scale bursts place → MeetsOneBefore net bursts place
meets_one net scale bursts place (direction, k, before, meet) = (k, before, collide_in net scale direction (get_or bursts k no_burst) (get_or bursts place no_burst) meet)
