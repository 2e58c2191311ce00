-- Boxes of bursts overlap in a lane exactly where the bursts share a slot and a beam.
use Rattle.std.proofs.Common.{refl, arith, ◌≡◌, ◌⊎◌, inl, inr, ℕ, zero, suc, ◌+◌, ◌-◌, ◌*◌, ◌/◌, ◌<◌, ◌≤◌, true, List, [], length, get_or, replicate, Option, Some, option_map, unwrap_or, ap, sym, ◌∙◌, subst}
use Rattle.std.proofs.lemmas.Option.{slice_get-get_or}
use Rattle.std.proofs.Math.Nat.{le-div_iff_mul-le, div-lt_iff_lt-mul, mul-le-mul_right, mul-lt-mul_of_pos_right, le-max_left, add-mul}
use Rattle.bt_frame.specs.declared.numbers.BeamNo.{BeamNo}
use Rattle.bt_frame.specs.declared.numbers.TermNo.{TermNo}
use Rattle.bt_net.specs.Network.{Net, IsSound}
use Rattle.bt_net.specs.Terminals.{IsTerminal, IsBetweenTerminals, beam_at}
use Rattle.bt_demand.specs.declared.burst.Burst.{Burst}
use Rattle.bt_demand.specs.declared.plan.Plan.{Plan}
use Rattle.bt_demand.specs.Burst.{Covers}
use Rattle.bt_demand.specs.Apart.{AreApart, AreBetweenTerminals, Collide}
use Rattle.bt_demand.specs.Plan.{ShareABeam}
use Rattle.bt_plan_chart.specs.declared.scale.Direction.{Direction}
use Rattle.bt_plan_chart.specs.declared.scale.Direction.TheVariants.{Up, Down}
use Rattle.bt_plan_chart.specs.declared.scale.Scale.{Scale}
use Rattle.bt_plan_chart.specs.declared.scale.TheConstants.{LEFT}
use Rattle.bt_plan_chart.specs.declared.choice.Choice.{Choice}
use Rattle.bt_plan_chart.specs.Overlap.{AreBoxesApart, AreDrawnApart, HasLane, IsIn, MeetIn, Overlap, OverlapDrawn}
use Rattle.bt_plan_chart.specs.Scale.{beam_number, box_of, column_of, is_drawn, is_shown, lane_top, scale_of, slots_box, terminal_of, whole, x_of}
use Rattle.bt_plan_chart.proofs.Places.{in_order, one_place}
use Rattle.bt_plan_chart.proofs.Shown.{column_kept, column_less, slot_at, slot_from, slot_shown, slot_under}

-- a slot of a burst that is shown begins in its box
in_box : (scale : Scale) (direction : Direction) (beam start slots slot : ℕ) → 0 < scale.unit → is_shown scale slot (slot + 1) ≡ true → start ≤ slot → slot < start + slots
    → IsIn (slots_box scale direction beam start slots) (x_of scale slot) (lane_top scale direction beam)
in_box scale direction beam start slots slot some shown from to =
    let first = column_of scale start in
    let here = column_of scale slot in
    let last = column_of scale (start + slots) in
    let order : first ≤ here = column_kept scale.is_cut scale.begin scale.end start slot from in
    let under : here < last = column_less scale.is_cut scale.begin scale.end slot (start + slots) shown to in
    let left : first * scale.unit ≤ here * scale.unit = mul-le-mul_right scale.unit order in
    let right : here * scale.unit < last * scale.unit = mul-lt-mul_of_pos_right under some in
    let whole_width : first * scale.unit + (last - first) * scale.unit ≡ last * scale.unit = sym (add-mul first (last - first) scale.unit) ∙ ap (λ n. n * scale.unit) (omega (arith, order, under)) in
    record { from_left = omega (arith, left); to_right = omega (arith, right, whole_width); from_top = omega arith; to_bottom = omega arith }

-- two bursts that share a slot that is shown, and a beam in a direction that has a lane, have boxes there that overlap
pub overlap_in : (net : Net) (scale : Scale) (direction : Direction) (a b : Burst) → 0 < scale.unit → MeetIn net scale direction a b → OverlapDrawn net scale direction a b
overlap_in net scale direction a b some meet =
    let slot = meet.slot in
    let a_beam = beam_number net (terminal_of direction a) in
    let b_beam = beam_number net (terminal_of direction b) in
    let same : b_beam ≡ a_beam = ap (λ (beam : Option BeamNo). unwrap_or (option_map (λ (one : BeamNo). one.0) beam) 0) (sym meet.beam) in
    record {
      first = meet.lane;
      second = ap (is_drawn scale) same ∙ meet.lane;
      boxes = record {
        x = x_of scale slot;
        y = lane_top scale direction a_beam;
        first = in_box scale direction a_beam a.start a.length slot some meet.shown meet.first.from_start meet.first.before_end;
        second = subst (λ (y : ℕ). IsIn (slots_box scale direction b_beam b.start b.length) (x_of scale slot) y) (ap (lane_top scale direction) same) (in_box scale direction b_beam b.start b.length slot some meet.shown meet.second.from_start meet.second.before_end);
      };
    }

-- the slot of a place from the left
abbrev slot_there : Scale → ℕ → ℕ
slot_there scale x = slot_at scale.is_cut scale.begin ((x - LEFT) / scale.unit)

-- the column of a place in a box is one of the burst's
column_from : (scale : Scale) (direction : Direction) (beam : ℕ) (burst : Burst) (x y : ℕ) → 0 < scale.unit → IsIn (slots_box scale direction beam burst.start burst.length) x y → column_of scale burst.start ≤ (x - LEFT) / scale.unit
column_from scale direction beam burst x y some is =
    let from : column_of scale burst.start * scale.unit ≤ x - LEFT = omega (arith, is.from_left) in
    (le-div_iff_mul-le some).1 from

column_to : (scale : Scale) (direction : Direction) (beam : ℕ) (burst : Burst) (x y : ℕ) → 0 < scale.unit → IsIn (slots_box scale direction beam burst.start burst.length) x y → (x - LEFT) / scale.unit < column_of scale (burst.start + burst.length)
column_to scale direction beam burst x y some is =
    let first = column_of scale burst.start in
    let last = column_of scale (burst.start + burst.length) in
    let order : first ≤ last = column_kept scale.is_cut scale.begin scale.end burst.start (burst.start + burst.length) (omega arith) in
    let whole_width : first * scale.unit + (last - first) * scale.unit ≡ last * scale.unit = sym (add-mul first (last - first) scale.unit) ∙ ap (λ n. n * scale.unit) (omega (arith, order)) in
    let to : x - LEFT < last * scale.unit = omega (arith, is.from_left, is.to_right, whole_width) in
    (div-lt_iff_lt-mul some).1 to

-- the slot of a place in a box is one of the burst's
slot_of : (scale : Scale) (direction : Direction) (beam : ℕ) (burst : Burst) (x y : ℕ) → 0 < scale.unit → IsIn (slots_box scale direction beam burst.start burst.length) x y → Covers burst (slot_there scale x)
slot_of scale direction beam burst x y some is =
    let place = (x - LEFT) / scale.unit in
    let to = burst.start + burst.length in
    let from = column_from scale direction beam burst x y some is in
    let under = column_to scale direction beam burst x y some is in
    record { from_start = slot_from scale.is_cut scale.begin scale.end burst.start to place from under; before_end = slot_under scale.is_cut scale.begin scale.end to place under }

-- a place lies in one lane of a direction at most
one_lane : (scale : Scale) (direction : Direction) (a b y : ℕ) → is_drawn scale a ≡ true → is_drawn scale b ≡ true → lane_top scale direction a ≤ y → y < lane_top scale direction a + 480 → lane_top scale direction b ≤ y → y < lane_top scale direction b + 480 → a ≡ b
one_lane scale Up a b y a_has b_has a_from a_to b_from b_to = one_place scale.drawn a b a_has b_has (omega (arith, a_from, a_to, b_from, b_to))
one_lane scale Down a b y a_has b_has a_from a_to b_from b_to = one_place scale.drawn a b a_has b_has (omega (arith, a_from, a_to, b_from, b_to))

-- and in none of the other direction
no_lane : (scale : Scale) (up down y : ℕ) → up < scale.beams → is_drawn scale up ≡ true → y < lane_top scale Up up + 480 → lane_top scale Down down ≤ y → ⊥
no_lane scale up down y within has to from = let before = in_order scale.drawn up scale.beams within has in omega (arith, before, to, from)

-- the beam of a terminal of the network
beam_of : (net : Net) (terminal : TermNo) → IsTerminal net terminal → beam_at net terminal ≡ Some (record { 0 = beam_number net terminal })
beam_of net terminal is =
    let none : List ℕ × BeamNo = ([], record { 0 = 0 }) in
    let found : beam_at net terminal ≡ Some ((get_or net.terminals terminal.0 none).1) = ap (option_map (λ (t : List ℕ × BeamNo). t.1)) (slice_get-get_or net.terminals terminal.0 none is) in
    let number : beam_number net terminal ≡ ((get_or net.terminals terminal.0 none).1).0 = ap (λ (beam : Option BeamNo). unwrap_or (option_map (λ (one : BeamNo). one.0) beam) 0) found in
    found ∙ ap (λ (n : ℕ). Some (let beam : BeamNo = record { 0 = n } in beam)) (sym number)

-- each terminal's beam is one of the network's
beam_below : (net : Net) (terminal : TermNo) → IsSound net → IsTerminal net terminal → beam_number net terminal < length net.beams
beam_below net terminal sound is =
    let none : List ℕ × BeamNo = ([], record { 0 = 0 }) in
    let found : beam_at net terminal ≡ Some ((get_or net.terminals terminal.0 none).1) = ap (option_map (λ (t : List ℕ × BeamNo). t.1)) (slice_get-get_or net.terminals terminal.0 none is) in
    let number : beam_number net terminal ≡ ((get_or net.terminals terminal.0 none).1).0 = ap (λ (beam : Option BeamNo). unwrap_or (option_map (λ (one : BeamNo). one.0) beam) 0) found in
    let below : ((get_or net.terminals terminal.0 none).1).0 < length net.beams = sound.terminals.in_beam terminal.0 none is in
    omega (arith, number, below)

-- terminals whose beams have one number are in one beam
pub same_beam : (net : Net) (one other : TermNo) → IsTerminal net one → IsTerminal net other → beam_number net one ≡ beam_number net other → beam_at net one ≡ beam_at net other
same_beam net one other is also same = beam_of net one is ∙ ap (λ (n : ℕ). Some (let beam : BeamNo = record { 0 = n } in beam)) same ∙ sym (beam_of net other also)

-- the terminal of a burst in a direction is one of the network's
pub of_net : (net : Net) (direction : Direction) (burst : Burst) → IsBetweenTerminals net burst.from burst.to → IsTerminal net (terminal_of direction burst)
of_net net Up burst between = between.0
of_net net Down burst between = between.1

-- the beam that two bursts share in a direction
pub shared : (net : Net) (direction : Direction) (a b : Burst) → beam_at net (terminal_of direction a) ≡ beam_at net (terminal_of direction b) → ShareABeam net a.from a.to b.from b.to
shared net Up a b same = inl same
shared net Down a b same = inr same

-- bursts whose boxes are drawn and overlap in a direction meet there
pub meet_in : (net : Net) (scale : Scale) (direction : Direction) (a b : Burst) → 0 < scale.unit → IsBetweenTerminals net a.from a.to → IsBetweenTerminals net b.from b.to → OverlapDrawn net scale direction a b → MeetIn net scale direction a b
meet_in net scale direction a b some a_between b_between drawn =
    let over = drawn.boxes in
    let a_beam = beam_number net (terminal_of direction a) in
    let b_beam = beam_number net (terminal_of direction b) in
    let lanes : a_beam ≡ b_beam = one_lane scale direction a_beam b_beam over.y drawn.first drawn.second over.first.from_top over.first.to_bottom over.second.from_top over.second.to_bottom in
    record {
      slot = slot_there scale over.x;
      shown = slot_shown scale.is_cut scale.begin scale.end (a.start + a.length) ((over.x - LEFT) / scale.unit) (column_to scale direction a_beam a over.x over.y some over.first);
      first = slot_of scale direction a_beam a over.x over.y some over.first;
      second = slot_of scale direction b_beam b over.x over.y some over.second;
      beam = same_beam net (terminal_of direction a) (terminal_of direction b) (of_net net direction a a_between) (of_net net direction b b_between) lanes;
      lane = drawn.first;
    }

-- bursts that meet where a direction is drawn meet
pub collide_in : (net : Net) (scale : Scale) (direction : Direction) (a b : Burst) → MeetIn net scale direction a b → Collide net a b
collide_in net scale direction a b meet = record { slot = meet.slot; first = meet.first; second = meet.second; beam = shared net direction a b meet.beam }

-- every beam has lanes where all have some
all_true : (count beam : ℕ) → get_or (replicate count true) beam true ≡ true
all_true zero beam = refl
all_true (suc count) zero = refl
all_true (suc count) (suc beam) = all_true count beam

-- in the picture of a whole plan each burst has a lane
pub has_lane : (net : Net) (plan : Plan) (direction : Direction) (burst : Burst) → HasLane net (scale_of net plan whole) direction burst
has_lane net plan direction burst = all_true 32 (beam_number net (terminal_of direction burst))

-- and bursts that meet do so where they are drawn
pub meets_drawn : (net : Net) (plan : Plan) (a b : Burst) → Collide net a b → MeetIn net (scale_of net plan whole) Up a b ⊎ MeetIn net (scale_of net plan whole) Down a b
meets_drawn net plan a b meet = elim meet.beam [
  | inl same ↦ inl (record { slot = meet.slot; shown = refl; first = meet.first; second = meet.second; beam = same; lane = has_lane net plan Up a })
  | inr same ↦ inr (record { slot = meet.slot; shown = refl; first = meet.first; second = meet.second; beam = same; lane = has_lane net plan Down a })
]

-- boxes in lanes of the two directions do not overlap
pub apart_lanes : (net : Net) (scale : Scale) (up down : Burst) → beam_number net up.from < scale.beams → is_drawn scale (beam_number net up.from) ≡ true → (x y : ℕ) → IsIn (box_of net scale Up up) x y → IsIn (box_of net scale Down down) x y → ⊥
apart_lanes net scale up down within has x y first second = no_lane scale (beam_number net up.from) (beam_number net down.to) y within has first.to_bottom second.from_top

-- two bursts that do not meet have no boxes that are drawn and overlap
pub drawn_apart : (net : Net) (scale : Scale) (a b : Burst) → 0 < scale.unit → scale.beams ≡ length net.beams → IsSound net → IsBetweenTerminals net a.from a.to → IsBetweenTerminals net b.from b.to
    → ¬ (Collide net a b) → (one other : Direction) → HasLane net scale one a → HasLane net scale other b → ¬ (Overlap (box_of net scale one a) (box_of net scale other b))
drawn_apart net scale a b some beams sound a_between b_between apart Up Up a_has b_has = λ over. apart (collide_in net scale Up a b (meet_in net scale Up a b some a_between b_between (record { first = a_has; second = b_has; boxes = over })))
drawn_apart net scale a b some beams sound a_between b_between apart Down Down a_has b_has = λ over. apart (collide_in net scale Down a b (meet_in net scale Down a b some a_between b_between (record { first = a_has; second = b_has; boxes = over })))
drawn_apart net scale a b some beams sound a_between b_between apart Up Down a_has b_has = λ over.
    let below : beam_number net a.from < length net.beams = beam_below net a.from sound a_between.0 in
    apart_lanes net scale a b (omega (arith, below, beams)) a_has over.x over.y over.first over.second
drawn_apart net scale a b some beams sound a_between b_between apart Down Up a_has b_has = λ over.
    let below : beam_number net b.from < length net.beams = beam_below net b.from sound b_between.0 in
    apart_lanes net scale b a (omega (arith, below, beams)) b_has over.x over.y over.second over.first

-- a slot has a twip at least
pub some_unit : (net : Net) (plan : Plan) (choice : Choice) → 0 < (scale_of net plan choice).unit
some_unit net plan choice = let least : 1 ≤ (scale_of net plan choice).unit = le-max_left 1 _ in omega (arith, least)

pub apart_part : (net : Net) (plan : Plan) (choice : Choice) → IsSound net → AreBetweenTerminals net plan.bursts → AreApart net plan.bursts → AreBoxesApart net (scale_of net plan choice) plan.bursts
apart_part net plan choice sound between apart = λ i j d before within.
    drawn_apart net (scale_of net plan choice) (get_or plan.bursts i d) (get_or plan.bursts j d) (some_unit net plan choice) refl sound (between i d (omega arith)) (between j d within) (apart i j d before within)

pub apart_plan : (net : Net) (plan : Plan) → IsSound net → AreBetweenTerminals net plan.bursts → AreApart net plan.bursts → AreDrawnApart net (scale_of net plan whole) plan.bursts
apart_plan net plan sound between apart = λ i j d before within one other.
    apart_part net plan whole sound between apart i j d before within one other (has_lane net plan one (get_or plan.bursts i d)) (has_lane net plan other (get_or plan.bursts j d))
