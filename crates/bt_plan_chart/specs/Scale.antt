-- Where slots and lanes lie in the picture. All places and sizes are in twips.
use Rattle.std.specs.Prelude.{◌≡◌, ℕ, zero, suc, ◌+◌, ◌-◌, ◌*◌, ◌/◌, ◌^◌, ◌≤◌, max, min, nat_lt, Bool, true, not, ◌&&◌, ◌||◌, if◌then◌else◌, List, length, map, replicate, Option, Some, None, is_some, unwrap_or}
use Rattle.std.specs.List.{fold, range_with_len, slice_index_or}
use Rattle.std.specs.Option.{option_map}
use Rattle.bt_frame.specs.declared.limits.TheConstants.{MOST_BEAMS}
use Rattle.bt_frame.specs.declared.numbers.BeamNo.{BeamNo}
use Rattle.bt_frame.specs.declared.numbers.TermNo.{TermNo}
use Rattle.bt_net.specs.Network.{Net}
use Rattle.bt_net.specs.Terminals.{beam_at}
use Rattle.bt_demand.specs.declared.burst.Burst.{Burst}
use Rattle.bt_demand.specs.declared.plan.Plan.{Plan}
use Rattle.bt_picture.specs.declared.shape.Rect.{Rect}
use Rattle.bt_plan_chart.specs.declared.choice.Choice.{Choice}
use Rattle.bt_plan_chart.specs.declared.choice.SlotRange.{SlotRange}
use Rattle.bt_plan_chart.specs.declared.scale.Direction.{Direction}
use Rattle.bt_plan_chart.specs.declared.scale.Direction.TheVariants.{Up, Down}
use Rattle.bt_plan_chart.specs.declared.scale.Scale.{Scale}
use Rattle.bt_plan_chart.specs.declared.scale.TheConstants.{LEFT, RIGHT, ROOM, LEAST_WIDTH, FIRST_LANE, PITCH, LANE, GAP, PLACES}

-- the terminal at one end of a burst: that which sends it up, or that to which it comes down
abbrev pub terminal_of : Direction → Burst → TermNo
terminal_of Up burst = burst.from
terminal_of Down burst = burst.to

-- the number of a terminal's beam
abbrev pub beam_number : Net → TermNo → ℕ
beam_number net terminal = unwrap_or (option_map (λ (beam : BeamNo). beam.0) (beam_at net terminal)) 0

-- the slot behind the last one of a burst
abbrev pub end_of : Burst → ℕ
end_of burst = burst.start + burst.length

-- the greatest of so many slots, the ends of all bursts, and 1
abbrev pub span_of : ℕ → List Burst → ℕ
span_of slots bursts = fold (λ span burst. max span (end_of burst)) (max slots 1) bursts

-- the width of a slot, so that all of them fit in the room where each has a twip of it
abbrev pub unit_of : ℕ → ℕ
unit_of span = max 1 (ROOM / span)

-- what is chosen where nothing is left out: all beams, and all slots
abbrev pub whole : Choice
whole = record { beams = replicate MOST_BEAMS true; slots = None }

-- the first slot that is shown
abbrev pub first_shown : Option SlotRange → ℕ
first_shown None = 0
first_shown (Some range) = range.first

-- the slot behind the last one that is shown, where so many are without a choice
abbrev pub end_shown : ℕ → Option SlotRange → ℕ
end_shown span None = span
end_shown span (Some range) = max range.first range.last + 1

-- whether a beam has lanes, by whether each of some has
abbrev pub has_lanes : List Bool → ℕ → Bool
has_lanes drawn beam = slice_index_or drawn beam true

-- how many of the beams before one have lanes
unfoldable pub lanes_before : List Bool → ℕ → ℕ
lanes_before drawn zero = 0
lanes_before drawn (suc beam) = lanes_before drawn beam + (if has_lanes drawn beam then 1 else 0)

-- the same for each beam, and for the place behind the last one
unfoldable pub places_of : List Bool → List ℕ
places_of drawn = map (lanes_before drawn) (range_with_len 0 PLACES)

-- what the places in a picture depend on, where these slots are shown
abbrev pub scale_between : Net → ℕ → Choice → ℕ → ℕ → Scale
scale_between net slots choice begin end = record {
  beams = length net.beams;
  drawn = choice.beams;
  places = places_of choice.beams;
  length = slots;
  frame = net.slots;
  is_cut = is_some choice.slots;
  begin = begin;
  end = end;
  unit = unit_of (end - begin);
}

-- the same of a plan: shown are the slots that are chosen, and without a choice those of a frame, of the plan, and of its bursts
abbrev pub scale_of : Net → Plan → Choice → Scale
scale_of net plan choice = scale_between net plan.schedule.length choice (first_shown choice.slots) (end_shown (span_of (max net.slots plan.schedule.length) plan.bursts) choice.slots)

-- what holds of the scale of every plan
pub record IsScale (scale : Scale) : Type 0 where
  pub beams : scale.beams ≤ MOST_BEAMS
  pub drawn : length scale.drawn ≡ MOST_BEAMS
  pub places : scale.places ≡ places_of scale.drawn
  pub length : scale.length ≤ 2 ^ 33
  pub frame : scale.frame ≤ 2 ^ 33
  pub forth : scale.begin ≤ scale.end
  pub end : scale.end ≤ 2 ^ 33
  pub unit : scale.unit ≤ ROOM

-- whether a beam has lanes in a picture
abbrev pub is_drawn : Scale → ℕ → Bool
is_drawn scale beam = has_lanes scale.drawn beam

-- whether slots are shown, from one to that behind the last: where only some slots are, one of these is among them
abbrev pub is_shown : Scale → ℕ → ℕ → Bool
is_shown scale from to = not scale.is_cut || (nat_lt from scale.end && nat_lt scale.begin to)

-- how many of the slots that are shown stand before one
abbrev pub column_of : Scale → ℕ → ℕ
column_of scale slot = if scale.is_cut then min (max slot scale.begin) scale.end - scale.begin else slot

-- the place of a slot from the left; one that is not shown stands at the edge on its side
abbrev pub x_of : Scale → ℕ → ℕ
x_of scale slot = LEFT + column_of scale slot * scale.unit

-- the place of a beam's lane from the top: those of the uplinks stand over those of the downlinks
abbrev pub lane_top : Scale → Direction → ℕ → ℕ
lane_top scale Up beam = FIRST_LANE + lanes_before scale.drawn beam * PITCH
lane_top scale Down beam = FIRST_LANE + (lanes_before scale.drawn scale.beams + lanes_before scale.drawn beam) * PITCH + GAP

-- so many slots of a lane, from a slot on, as far as they are shown
abbrev pub slots_box : Scale → Direction → ℕ → ℕ → ℕ → Rect
slots_box scale direction beam start slots = record { x = x_of scale start; y = lane_top scale direction beam; width = (column_of scale (start + slots) - column_of scale start) * scale.unit; height = LANE }

-- the box of a burst in the lane of its beam
abbrev pub box_of : Net → Scale → Direction → Burst → Rect
box_of net scale direction burst = slots_box scale direction (beam_number net (terminal_of direction burst)) burst.start burst.length

-- where the legend begins, and how high a picture is with it
abbrev pub legend_top : Scale → ℕ
legend_top scale = lane_top scale Down scale.beams + 260

abbrev pub height_of : Scale → ℕ
height_of scale = legend_top scale + ((scale.beams + 1) / 7 + 1) * 440 + 160

-- how wide a picture is
abbrev pub width_of : Scale → ℕ
width_of scale = max LEAST_WIDTH (x_of scale scale.end + RIGHT)
