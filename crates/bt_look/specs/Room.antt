-- How many slots of the frame a traffic matrix asks of each beam, how many are free there, and how many units one add may have.
use Rattle.std.specs.Prelude.{ℕ, ◌-◌, ◌==◌, ◌&&◌, if◌then◌else◌, nat_lt, nat_le, min, Bool, List, [], ◌∷◌, ◌++◌, codes, decimal, flat_map, length, count_by, slice_index_or, Option, Some}
use Rattle.std.specs.List.{range_with_len}
use Rattle.bt_frame.specs.declared.numbers.BeamNo.{BeamNo}
use Rattle.bt_frame.specs.declared.numbers.TermNo.{TermNo}
use Rattle.bt_net.specs.Network.{Net}
use Rattle.bt_net.specs.Terminals.{beam_at, name_at}
use Rattle.bt_matrix.specs.Traffic.{row_sum, column_sum}
use Rattle.bt_words.specs.Lines.{line_of}

-- the name of the beam of that number
abbrev pub beam_named : Net → ℕ → List ℕ
beam_named net beam = slice_index_or net.beams beam []

-- the slots of the frame in which an uplink beam is not asked to send
abbrev pub free_up : Net → List (List ℕ) → ℕ → ℕ
free_up net rows up = net.slots - row_sum rows up

-- the slots of the frame in which a downlink beam is not asked to receive
abbrev pub free_down : Net → List (List ℕ) → ℕ → ℕ
free_down net rows down = net.slots - column_sum rows down

-- `up NAME asked K free K` or `down NAME asked K free K`: so many slots are asked of a beam, of so many that the frame has
abbrev pub side_line : List ℕ → List ℕ → ℕ → ℕ → List ℕ
side_line side name asked slots = line_of (side ∷ name ∷ codes "asked" ∷ decimal asked ∷ codes "free" ∷ decimal (slots - asked) ∷ [])

-- the line of an uplink beam
abbrev pub up_line : Net → List (List ℕ) → ℕ → List ℕ
up_line net rows beam = side_line (codes "up") (beam_named net beam) (row_sum rows beam) net.slots

-- the line of a downlink beam
abbrev pub down_line : Net → List (List ℕ) → ℕ → List ℕ
down_line net rows beam = side_line (codes "down") (beam_named net beam) (column_sum rows beam) net.slots

-- both lines of a beam
abbrev pub beam_lines : Net → List (List ℕ) → ℕ → List ℕ
beam_lines net rows beam = up_line net rows beam ++ down_line net rows beam

-- the numbers of the network's beams
abbrev pub beams_of : Net → List ℕ
beams_of net = range_with_len 0 (length net.beams)

-- the lines of all beams
abbrev pub load_lines : Net → List (List ℕ) → List ℕ
load_lines net rows = flat_map (beam_lines net rows) (beams_of net)

-- how many terminals a beam has
abbrev pub terminals_in : Net → ℕ → ℕ
terminals_in net beam = count_by (λ terminal. terminal.1.0 == beam) net.terminals

-- some terminal of the one beam may send to some terminal of the other: a beam that is both has two
abbrev pub can_link : Net → ℕ → ℕ → Bool
can_link net up down = if up == down then nat_le 2 (terminals_in net up) else nat_le 1 (terminals_in net up) && nat_le 1 (terminals_in net down)

-- the most units that one add from a terminal of the one beam to one of the other may have
abbrev pub room : Net → List (List ℕ) → ℕ → ℕ → ℕ
room net rows up down = if can_link net up down then min (free_up net rows up) (free_down net rows down) else 0

-- `room UP DOWN K`, where there is some
abbrev pub room_line : Net → List (List ℕ) → ℕ → ℕ → List ℕ
room_line net rows up down = if nat_lt 0 (room net rows up down) then line_of (codes "room" ∷ beam_named net up ∷ beam_named net down ∷ decimal (room net rows up down) ∷ []) else []

-- the room from one beam to each
abbrev pub rooms_from : Net → List (List ℕ) → ℕ → List ℕ
rooms_from net rows up = flat_map (room_line net rows up) (beams_of net)

-- the room from each beam to each
abbrev pub room_lines : Net → List (List ℕ) → List ℕ
room_lines net rows = flat_map (rooms_from net rows) (beams_of net)

-- what is asked of each beam and what is free there, and then the room between each two
abbrev pub capacity_lines : Net → List (List ℕ) → List ℕ
capacity_lines net rows = load_lines net rows ++ room_lines net rows

-- what is free for a link from the one beam to the other, where both are there
abbrev pub free_for : Net → List (List ℕ) → Option BeamNo → Option BeamNo → ℕ
free_for net rows (Some up) (Some down) = min (free_up net rows up.0) (free_down net rows down.0)
free_for net rows _ _ = 0

-- the most units that one add from the one terminal to the other may have: none where they are one
abbrev pub room_of_link : Net → List (List ℕ) → TermNo → TermNo → ℕ
room_of_link net rows from to = if from.0 == to.0 then 0 else free_for net rows (beam_at net from) (beam_at net to)

-- `room FROM TO K`, for two terminals
abbrev pub link_room_line : Net → List (List ℕ) → TermNo → TermNo → List ℕ
link_room_line net rows from to = line_of (codes "room" ∷ name_at net from ∷ name_at net to ∷ decimal (room_of_link net rows from to) ∷ [])
