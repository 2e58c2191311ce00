-- Which parts the picture of a plan has. All places and sizes are in twips, from the left and from the top.
use Rattle.std.specs.Prelude.{ℕ, ◌+◌, ◌-◌, ◌*◌, ◌/◌, ◌%◌, ◌++◌, ◌==◌, ◌&&◌, ◌||◌, not, max, min, nat_lt, nat_le, Bool, true, false, if◌then◌else◌, List, [], ◌∷◌, length, map, flat_map, codes, decimal, sum_by, take, Option, Some, None, unwrap_or, slice_get}
use Rattle.std.specs.List.{list_all, fold, list_any, range_with_len, slice_index_or}
use Rattle.bt_frame.specs.declared.mode.Mode.{Mode}
use Rattle.bt_frame.specs.declared.schedule.Critical.{Critical}
use Rattle.bt_frame.specs.declared.schedule.Critical.TheVariants.{Row, Column}
use Rattle.bt_net.specs.Network.{Net}
use Rattle.bt_net.specs.Terminals.{name_at}
use Rattle.bt_demand.specs.Plan.{begin_of}
use Rattle.bt_demand.specs.declared.burst.Burst.{Burst}
use Rattle.bt_demand.specs.declared.plan.Plan.{Plan}
use Rattle.bt_picture.specs.Picture.{Part, Picture, Shape, Rectangle, Line, Label, Alone, Titled}
use Rattle.bt_picture.specs.declared.shape.Anchor.TheVariants.{Start, Middle, End}
use Rattle.bt_picture.specs.declared.shape.Point.{Point}
use Rattle.bt_picture.specs.declared.shape.Rect.{Rect}
use Rattle.bt_picture.specs.declared.style.Style.{Style}
use Rattle.bt_picture.specs.declared.style.Style.TheVariants as style
use Rattle.bt_plan_chart.specs.declared.bursts.TheConstants.{ARROW}
use Rattle.bt_plan_chart.specs.declared.heading.TheConstants.{STEPS, LAST_STEP, TICKS}
use Rattle.bt_plan_chart.specs.declared.choice.Choice.{Choice}
use Rattle.bt_plan_chart.specs.declared.choice.SlotRange.{SlotRange}
use Rattle.bt_plan_chart.specs.declared.scale.Direction.{Direction}
use Rattle.bt_plan_chart.specs.declared.scale.Direction.TheVariants.{Up, Down}
use Rattle.bt_plan_chart.specs.declared.scale.Scale.{Scale}
use Rattle.bt_plan_chart.specs.declared.scale.TheConstants.{LEFT}
use Rattle.bt_plan_chart.specs.Parts.{text_of}
use Rattle.bt_plan_chart.specs.Scale.{terminal_of, beam_number, column_of, end_of, is_drawn, is_shown, scale_of, x_of, lane_top, slots_box, legend_top, height_of, width_of}

-- a place
abbrev pub at : ℕ → ℕ → Point
at across down = record { x = across; y = down }

-- the name of a beam, and nothing where the network has none of that number
abbrev pub name_of_beam : Net → ℕ → List ℕ
name_of_beam net beam = unwrap_or (slice_get net.beams beam) []

-- the words for the lines of a direction
abbrev pub direction_name : Direction → List ℕ
direction_name Up = codes "uplink"
direction_name Down = codes "downlink"

abbrev pub direction_head : Direction → List ℕ
direction_head Up = codes "Uplinks"
direction_head Down = codes "Downlinks"

-- the direction and the beam of the critical line
abbrev pub critical_direction : Critical → Direction
critical_direction (Row _) = Up
critical_direction (Column _) = Down

abbrev pub critical_beam : Critical → ℕ
critical_beam (Row up) = up.0
critical_beam (Column down) = down.0

-- whether a lane is that of the critical line
abbrev pub is_critical : Critical → Direction → ℕ → Bool
is_critical (Row up) Up beam = up.0 == beam
is_critical (Row up) Down beam = false
is_critical (Column down) Up beam = false
is_critical (Column down) Down beam = down.0 == beam

-- the words for one thing, or those for another number of them
abbrev pub counted : ℕ → List ℕ → List ℕ → List ℕ
counted number one many = if number == 1 then one else many

-- the heading
abbrev pub title_part : ℕ → Option SlotRange → Part
title_part edition None = Alone (Label (at 320 480) Start style.Title (text_of (codes "Plan of edition " ∷ decimal edition ∷ [])))
title_part edition (Some range) = Alone (Label (at 320 480) Start style.Title (text_of (codes "Plan of edition " ∷ decimal edition ∷ codes ", slots " ∷ decimal range.first ∷ codes " to " ∷ decimal range.last ∷ [])))

abbrev pub counts_part : ℕ → ℕ → ℕ → List ℕ → List ℕ → ℕ → Part
counts_part slots modes bursts line name frame = Alone (Label (at 320 880) Start style.Text (text_of (
    decimal slots ∷ counted slots (codes " slot, ") (codes " slots, ") ∷ decimal modes ∷ counted modes (codes " mode, ") (codes " modes, ")
    ∷ decimal bursts ∷ counted bursts (codes " burst") (codes " bursts") ∷ codes "; the critical line is " ∷ line ∷ codes " " ∷ name
    ∷ codes " (frame of " ∷ decimal frame ∷ counted frame (codes " slot)") (codes " slots)") ∷ [])))

abbrev pub heading_parts : Net → Plan → Choice → List Part
heading_parts net plan choice = title_part plan.edition.0 choice.slots
    ∷ counts_part plan.schedule.length (length plan.schedule.modes) (length plan.bursts) (direction_name (critical_direction plan.schedule.critical)) (name_of_beam net (critical_beam plan.schedule.critical)) net.slots ∷ []

-- the first of some steps that leaves few enough ticks
abbrev pub step_among : List ℕ → ℕ → ℕ
step_among [] span = LAST_STEP
step_among (step ∷ rest) span = if nat_lt (span / TICKS) step then step else step_among rest span

-- the slots between two ticks
unfoldable pub step_of : ℕ → ℕ
step_of span = step_among STEPS span

-- a tick of the ruler at a slot
abbrev pub tick_part : ℕ → ℕ → Part
tick_part slot x = Titled (text_of (codes "slot " ∷ decimal slot ∷ []))
    (Line (at x 1400) (at x 1520) style.Line ∷ Label (at x 1340) Middle style.Text (text_of (decimal slot ∷ [])) ∷ [])

-- whether a slot has a tick: it is none before or past those that are shown, and more than half a step from the end of the frame
abbrev pub has_tick : Scale → ℕ → ℕ → Bool
has_tick scale step slot = nat_le scale.begin slot && nat_le slot scale.end && (nat_lt (slot + step / 2) scale.frame || nat_lt (scale.frame + step / 2) slot)

-- the tick there, where it has one
abbrev pub tick_parts : Scale → ℕ → ℕ → List Part
tick_parts scale step slot = if has_tick scale step slot then tick_part slot (x_of scale slot) ∷ [] else []

-- the first slot from one on that is a multiple of a step
abbrev pub first_tick : ℕ → ℕ → ℕ
first_tick begin step = if begin % step == 0 then begin else begin - begin % step + step

-- the tick at the end of the frame, where that is shown
abbrev pub last_tick_parts : Scale → List Part
last_tick_parts scale = if nat_le scale.begin scale.frame && nat_le scale.frame scale.end then tick_part scale.frame (x_of scale scale.frame) ∷ [] else []

-- ticks with so many slots from one to the next, and one at the end of the frame; those of a scale
abbrev pub ticks_parts : Scale → ℕ → List Part
ticks_parts scale step = flat_map (λ tick. tick_parts scale step (first_tick scale.begin step + tick * step)) (range_with_len 0 TICKS) ++ last_tick_parts scale

abbrev pub ruler_parts : Scale → List Part
ruler_parts scale = ticks_parts scale (step_of (scale.end - scale.begin))

-- no two of the downlinks are the same
abbrev pub are_distinct : List ℕ → Bool
are_distinct [] = true
are_distinct (down ∷ rest) = not (list_any (λ other. other == down) rest) && are_distinct rest

-- each of the downlinks is one of so many beams
abbrev pub are_below : ℕ → List ℕ → Bool
are_below beams perm = list_all (λ down. nat_lt down beams) perm

-- whether a mode sends each beam to a beam of its own
abbrev pub is_permutation : ℕ → List ℕ → Bool
is_permutation beams perm = length perm == beams && are_below beams perm && are_distinct perm

-- the band of a mode from a slot to another, cut where the picture ends
abbrev pub band_of : Scale → ℕ → ℕ → Rect
band_of scale begin end = record { x = x_of scale (min begin scale.end); y = 1520; width = (column_of scale (min end scale.end) - column_of scale (min begin scale.end)) * scale.unit; height = 280 }

-- how the title of a mode ends
abbrev pub mode_ending : Bool → List ℕ
mode_ending true = []
mode_ending false = codes "; no permutation of the beams"

-- the connection of an uplink beam in a mode, and those of all
abbrev pub connection_text : Net → List ℕ → ℕ → List ℕ
connection_text net perm up = codes " " ++ name_of_beam net up ++ ARROW.now ++ name_of_beam net (slice_index_or perm up 0)

unfoldable pub connections_text : Net → List ℕ → List ℕ
connections_text net perm = flat_map (connection_text net perm) (range_with_len 0 (length perm))

-- the label of a mode in its band: where there is room its duration, and where there is more its connections, in small letters
abbrev pub mode_label : ℕ → List ℕ → Rect → List Shape
mode_label duration connections band = if nat_lt band.width 500 then []
    else (if nat_lt (length connections + 12) (band.width / 92)
    then Label (at (band.x + band.width / 2) 1720) Middle style.Small (text_of (decimal duration ∷ codes ":" ∷ connections ∷ [])) ∷ []
    else Label (at (band.x + band.width / 2) 1740) Middle style.Text (text_of (decimal duration ∷ [])) ∷ [])

-- the band of a mode, with a broken edge where it is no permutation
abbrev pub band_shapes : Bool → Rect → List Shape
band_shapes good band = Rectangle band style.Band ∷ (if good then [] else Rectangle band style.Fault ∷ [])

-- a mode in its band, with its connections
abbrev pub mode_part : ℕ → ℕ → Bool → List ℕ → Rect → Part
mode_part place duration good connections band = Titled (text_of (codes "mode " ∷ decimal place ∷ codes ", " ∷ decimal duration ∷ counted duration (codes " slot:") (codes " slots:") ∷ connections ∷ mode_ending good ∷ []))
    (band_shapes good band ++ mode_label duration connections band)

-- a mode of a list, which begins where those before it end, where slots of it are shown
abbrev pub mode_part_from : Net → Scale → ℕ → ℕ → Mode → Part
mode_part_from net scale place begin mode = mode_part place mode.duration (is_permutation scale.beams mode.perm) (connections_text net mode.perm) (band_of scale begin (begin + mode.duration))

abbrev pub mode_parts_from : Net → Scale → ℕ → ℕ → Mode → List Part
mode_parts_from net scale place begin mode = if is_shown scale begin (begin + mode.duration) then mode_part_from net scale place begin mode ∷ [] else []

-- what stands in no list
abbrev pub no_mode : Mode
no_mode = record { duration = 0; perm = [] }

abbrev pub mode_parts_at : Net → Scale → List Mode → ℕ → List Part
mode_parts_at net scale modes place = mode_parts_from net scale place (begin_of modes place) (slice_index_or modes place no_mode)

abbrev pub bands_parts : Net → Scale → List Mode → List Part
bands_parts net scale modes = flat_map (mode_parts_at net scale modes) (range_with_len 0 (length modes))

-- what stands beside the bands, and the bands
abbrev pub modes_head : Part
modes_head = Alone (Label (at 1560 1740) End style.Text (text_of (codes "modes" ∷ [])))

abbrev pub modes_parts : Net → Scale → List Mode → List Part
modes_parts net scale modes = modes_head ∷ bands_parts net scale modes

-- the slots of the bursts in a lane
abbrev pub slots_in_lane : Net → Direction → List Burst → ℕ → ℕ
slots_in_lane net direction bursts beam = sum_by (λ burst. if beam_number net (terminal_of direction burst) == beam then burst.length else 0) bursts

-- how a lane, its numbers and its name look; long names are small
abbrev pub lane_style : Bool → Style
lane_style true = style.Heavy
lane_style false = style.Lane

abbrev pub lane_letters : Bool → Style
lane_letters true = style.Head
lane_letters false = style.Text

abbrev pub name_letters : Bool → ℕ → Style
name_letters heavy letters = if nat_lt 11 letters then style.Small else lane_letters heavy

-- a lane: the rest of the frame, its box, its name on the left, and how full it is on the right
abbrev pub lane_part : Direction → List ℕ → ℕ → ℕ → Bool → Rect → Rect → ℕ → Part
lane_part direction name slots whole heavy lane rest right = Titled (text_of (direction_name direction ∷ codes " " ∷ name ∷ codes ": " ∷ decimal slots ∷ codes " of " ∷ decimal whole ∷ counted whole (codes " slot") (codes " slots") ∷ []))
    (Rectangle rest style.Free ∷ Rectangle lane (lane_style heavy) ∷ Label (at 1560 (lane.y + 320)) End (name_letters heavy (length name)) (text_of (name ∷ []))
    ∷ Label (at right (lane.y + 320)) Start (lane_letters heavy) (text_of (decimal slots ∷ codes "/" ∷ decimal whole ∷ [])) ∷ [])

-- the lane of a beam
abbrev pub lane_part_at : Net → Scale → Plan → Direction → ℕ → Part
lane_part_at net scale plan direction beam = lane_part direction (name_of_beam net beam) (slots_in_lane net direction plan.bursts beam) scale.length
    (is_critical plan.schedule.critical direction beam) (slots_box scale direction beam 0 scale.length) (slots_box scale direction beam scale.length (scale.frame - scale.length)) (x_of scale scale.end + 160)

-- the lane of a beam, where it has one, and the lanes of all beams
abbrev pub lane_parts_at : Net → Scale → Plan → Direction → ℕ → List Part
lane_parts_at net scale plan direction beam = if is_drawn scale beam then lane_part_at net scale plan direction beam ∷ [] else []

abbrev pub each_lane_parts : Net → Scale → Plan → Direction → List Part
each_lane_parts net scale plan direction = flat_map (lane_parts_at net scale plan direction) (range_with_len 0 scale.beams)

-- what stands over the lanes of a direction, and the lanes
abbrev pub lanes_head : Scale → Direction → Part
lanes_head scale direction = Alone (Label (at 320 (lane_top scale direction 0 - 160)) Start style.Head (text_of (direction_head direction ∷ [])))

abbrev pub lanes_parts : Net → Scale → Plan → Direction → List Part
lanes_parts net scale plan direction = lanes_head scale direction ∷ each_lane_parts net scale plan direction

-- the title of a burst: who sends to whom in which slots
abbrev pub burst_title : List ℕ → List ℕ → ℕ → ℕ → List ℕ
burst_title from to start slots = if slots == 1
    then text_of (from ∷ codes " to " ∷ to ∷ codes ", slot " ∷ decimal start ∷ [])
    else text_of (from ∷ codes " to " ∷ to ∷ codes ", slots " ∷ decimal start ∷ codes " to " ∷ decimal (start + slots - 1) ∷ [])

-- both names have room in a box of that width
abbrev pub has_room : ℕ → List ℕ → List ℕ → Bool
has_room width from to = nat_lt (length from) (width / 260) && nat_lt (length to) (width / 260)

-- the names of a burst in one of its boxes
abbrev pub names_in : Rect → List ℕ → List ℕ → Shape
names_in box from to = Label (at (box.x + box.width / 2) (box.y + 320)) Middle style.Text (text_of (from ∷ ARROW.now ∷ to ∷ []))

-- each name has room in a line of its own, in small letters, the second behind an arrow
abbrev pub have_lines : ℕ → List ℕ → List ℕ → Bool
have_lines width from to = nat_le (length from) (width / 100) && nat_lt (length to) (width / 100)

-- small letters in a box, so far below its upper edge
abbrev pub line_in : Rect → ℕ → List ℕ → Shape
line_in box below text = Label (at (box.x + box.width / 2) (box.y + below)) Middle style.Small text

-- two boxes with their fills, and two lines of letters in each
abbrev pub lined_shapes : Rect → Rect → ℕ → ℕ → List ℕ → List ℕ → List Shape
lined_shapes up down up_fill down_fill first second = Rectangle up (style.Fill up_fill) ∷ Rectangle down (style.Fill down_fill)
    ∷ line_in up 210 first ∷ line_in up 400 second ∷ line_in down 210 first ∷ line_in down 400 second ∷ []

-- the two boxes of a burst, each with the fill of the beam at the other end, and the names where there is room
abbrev pub burst_shapes : Rect → Rect → ℕ → ℕ → List ℕ → List ℕ → List Shape
burst_shapes up down up_beam down_beam from to = if has_room up.width from to
    then Rectangle up (style.Fill down_beam) ∷ Rectangle down (style.Fill up_beam) ∷ names_in up from to ∷ names_in down from to ∷ []
    else (if have_lines up.width from to
    then lined_shapes up down down_beam up_beam (text_of (from ∷ [])) (text_of (ARROW.now ∷ to ∷ []))
    else Rectangle up (style.Fill down_beam) ∷ Rectangle down (style.Fill up_beam) ∷ [])

-- a box with its fill, and two lines of letters in it
abbrev pub one_lined_shapes : Rect → ℕ → List ℕ → List ℕ → List Shape
one_lined_shapes box fill first second = Rectangle box (style.Fill fill) ∷ line_in box 210 first ∷ line_in box 400 second ∷ []

-- one box of a burst, where the other has no lane: its fill, and the names where there is room
abbrev pub one_box_shapes : Rect → ℕ → List ℕ → List ℕ → List Shape
one_box_shapes box fill from to = if has_room box.width from to
    then Rectangle box (style.Fill fill) ∷ names_in box from to ∷ []
    else (if have_lines box.width from to
    then one_lined_shapes box fill (text_of (from ∷ [])) (text_of (ARROW.now ∷ to ∷ []))
    else Rectangle box (style.Fill fill) ∷ [])

-- a burst under its title, by whether its uplink beam has a lane, and whether its downlink beam has one
abbrev pub boxed_parts : Bool → Bool → List ℕ → Rect → Rect → ℕ → ℕ → List ℕ → List ℕ → List Part
boxed_parts true true title up down up_beam down_beam from to = Titled title (burst_shapes up down up_beam down_beam from to) ∷ []
boxed_parts true false title up down up_beam down_beam from to = Titled title (one_box_shapes up down_beam from to) ∷ []
boxed_parts false true title up down up_beam down_beam from to = Titled title (one_box_shapes down up_beam from to) ∷ []
boxed_parts false false title up down up_beam down_beam from to = []

-- a burst between two beams
abbrev pub burst_parts : Scale → Burst → ℕ → List ℕ → ℕ → List ℕ → List Part
burst_parts scale burst up_beam from down_beam to = boxed_parts (is_drawn scale up_beam) (is_drawn scale down_beam) (burst_title from to burst.start burst.length)
    (slots_box scale Up up_beam burst.start burst.length) (slots_box scale Down down_beam burst.start burst.length) up_beam down_beam from to

-- a burst of a network, where slots of it are shown
abbrev pub burst_parts_of : Net → Scale → Burst → List Part
burst_parts_of net scale burst = if is_shown scale burst.start (end_of burst)
    then burst_parts scale burst (beam_number net burst.from) (name_at net burst.from) (beam_number net burst.to) (name_at net burst.to) else []

-- broken edges round the boxes of a burst, by whether its uplink beam has a lane, and whether its downlink beam has one
abbrev pub edges_parts : Bool → Bool → List ℕ → Rect → Rect → List Part
edges_parts true true title up down = Titled title (Rectangle up style.Fault ∷ Rectangle down style.Fault ∷ []) ∷ []
edges_parts true false title up down = Titled title (Rectangle up style.Fault ∷ []) ∷ []
edges_parts false true title up down = Titled title (Rectangle down style.Fault ∷ []) ∷ []
edges_parts false false title up down = []

-- the slots of a burst that lie past the length, in the lanes of its beams
abbrev pub overrun_parts : Scale → ℕ → ℕ → ℕ → ℕ → List Part
overrun_parts scale up_beam down_beam start slots = edges_parts (is_drawn scale up_beam) (is_drawn scale down_beam) (text_of (codes "past the length" ∷ []))
    (slots_box scale Up up_beam start slots) (slots_box scale Down down_beam start slots)

-- the mark of a burst that runs past the length, where slots of it there are shown
abbrev pub overrun_parts_of : Net → Scale → Burst → List Part
overrun_parts_of net scale burst = if nat_lt scale.length (end_of burst) && is_shown scale (max burst.start scale.length) (end_of burst)
    then overrun_parts scale (beam_number net burst.from) (beam_number net burst.to) (max burst.start scale.length) (end_of burst - max burst.start scale.length) else []

-- the latest end of the bursts in a lane, and 0 where there are none
abbrev pub latest_end : Net → Direction → List Burst → ℕ → ℕ
latest_end net direction bursts beam = fold (λ latest burst. if beam_number net (terminal_of direction burst) == beam then max latest (end_of burst) else latest) 0 bursts

-- the mark of slots from one to another, in which bursts meet, in their box
abbrev pub clash_mark : ℕ → ℕ → Rect → Part
clash_mark first last box = Titled (text_of (codes "bursts meet from slot " ∷ decimal first ∷ codes " to slot " ∷ decimal last ∷ [])) (Rectangle box style.Fault ∷ [])

-- the mark of so many slots of a lane
abbrev pub clash_part : Scale → Direction → ℕ → ℕ → ℕ → Part
clash_part scale direction beam start slots = clash_mark start (start + slots - 1) (slots_box scale direction beam start slots)

-- the mark of a burst, where those before it in its lane end behind its start, where it has a lane and slots of the mark are shown
abbrev pub clash_parts : Scale → Direction → ℕ → Burst → ℕ → List Part
clash_parts scale direction beam burst latest = if nat_lt burst.start (min (end_of burst) latest) && (is_drawn scale beam && is_shown scale burst.start (min (end_of burst) latest))
    then clash_part scale direction beam burst.start (min (end_of burst) latest - burst.start) ∷ [] else []

-- what stands in no list
abbrev pub no_burst : Burst
no_burst = record { from = record { 0 = 0 }; to = record { 0 = 0 }; start = 0; length = 0 }

-- the mark of a burst of a list, whose bursts are in order of their start
abbrev pub clash_parts_of : Net → Scale → Direction → List Burst → Burst → List Part
clash_parts_of net scale direction before burst = clash_parts scale direction (beam_number net (terminal_of direction burst)) burst (latest_end net direction before (beam_number net (terminal_of direction burst)))

abbrev pub clash_parts_at : Net → Scale → Direction → List Burst → ℕ → List Part
clash_parts_at net scale direction bursts place = clash_parts_of net scale direction (take place bursts) (slice_index_or bursts place no_burst)

-- the marks of all bursts in the lanes of a direction
abbrev pub clashes_parts : Net → Scale → Direction → List Burst → List Part
clashes_parts net scale direction bursts = flat_map (clash_parts_at net scale direction bursts) (range_with_len 0 (length bursts))

-- how a name in the legend looks; long ones are small
abbrev pub item_letters : ℕ → Style
item_letters letters = if nat_lt 12 letters then style.Small else style.Text

-- an item of the legend, seven to a line
abbrev pub item_part : ℕ → ℕ → Style → List ℕ → Part
item_part top place look name = Titled (text_of (name ∷ []))
    (Rectangle (record { x = LEFT + place % 7 * 2400; y = top + place / 7 * 440; width = 280; height = 280 }) look
    ∷ Label (at (LEFT + place % 7 * 2400 + 380) (top + place / 7 * 440 + 230)) Start (item_letters (length name)) (text_of (name ∷ [])) ∷ [])

-- what stands beside the legend, the fill of a beam, and what a lane looks like where it is silent and behind the plan
abbrev pub legend_head : Scale → Part
legend_head scale = Alone (Label (at 1560 (legend_top scale + 230)) End style.Text (text_of (codes "other beam" ∷ [])))

abbrev pub fill_part_at : Net → Scale → ℕ → Part
fill_part_at net scale beam = item_part (legend_top scale) beam (style.Fill beam) (name_of_beam net beam)

abbrev pub silent_part : Scale → Part
silent_part scale = item_part (legend_top scale) scale.beams style.Lane (codes "silent")

abbrev pub free_part : Scale → Part
free_part scale = item_part (legend_top scale) (scale.beams + 1) style.Free (codes "free")

abbrev pub legend_parts : Net → Scale → List Part
legend_parts net scale = legend_head scale ∷ map (fill_part_at net scale) (range_with_len 0 scale.beams) ++ silent_part scale ∷ free_part scale ∷ []

-- all parts, each of which lies over those before it
abbrev pub chart_parts : Net → Scale → Plan → Choice → List Part
chart_parts net scale plan choice = heading_parts net plan choice ++ ruler_parts scale ++ modes_parts net scale plan.schedule.modes
    ++ lanes_parts net scale plan Up ++ lanes_parts net scale plan Down
    ++ flat_map (burst_parts_of net scale) plan.bursts ++ flat_map (overrun_parts_of net scale) plan.bursts
    ++ clashes_parts net scale Up plan.bursts ++ clashes_parts net scale Down plan.bursts ++ legend_parts net scale

-- the picture of what is chosen of a plan
abbrev pub plan_picture : Net → Plan → Choice → Picture
plan_picture net plan choice = let scale = scale_of net plan choice in record { width = width_of scale; height = height_of scale; parts = chart_parts net scale plan choice }
