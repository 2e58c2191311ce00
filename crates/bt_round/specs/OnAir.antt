-- How the centre sees the air, read off its own state: the lines that tell it. Nothing happens by them, and nothing is asked.
use Rattle.std.specs.Prelude.{ℕ, ◌++◌, Bool, true, false, List, filter, flat_map, length, Option, Some, None}
use Rattle.bt_frame.specs.declared.numbers.EditionNo.{EditionNo}
use Rattle.bt_frame.specs.declared.numbers.Mark.{Mark}
use Rattle.bt_frame.specs.declared.numbers.TermNo.{TermNo}
use Rattle.bt_net.specs.Network.{Net}
use Rattle.bt_machines.specs.Centre.{State as Centre, is_missing}
use Rattle.bt_machines.specs.Last.{last_order}
use Rattle.bt_machines.specs.Terminals.{has, terminals_of}
use Rattle.bt_site.specs.Centre.{centre}
use Rattle.bt_timeline.specs.Air.{ahead_line, back_line}
use Rattle.bt_timeline.specs.OnAir.{asks_line, kept_line, last_line, missing_line, superframe_line}
use Rattle.bt_round.specs.AirLines.{AirState, Simulated, Apart, back_of, is_marked, mark_of, orders_in}
use Rattle.bt_round.specs.Simulated.{happened}

-- the centre by its table
abbrev pub centre_of : AirState → Centre
centre_of (Simulated a) = centre a.life.opening (happened a)
centre_of (Apart a) = a.centre

-- the superframe, where the centre has heard of one since its start
abbrev pub where_marked : Bool → Mark → Option Mark
where_marked true present = Some present
where_marked false present = None

-- the lines of those terminals of the network that have still to confirm the edition of the last order
abbrev pub missing_lines : Net → Centre → List ℕ
missing_lines net s = flat_map (missing_line net) (filter (is_missing s) (terminals_of (length net.terminals)))

-- the lines of those terminals of the network that ask for their bursts
abbrev pub asks_lines : Net → Centre → List ℕ
asks_lines net s = flat_map (asks_line net) (filter (λ (terminal : TermNo). has s.asking terminal) (terminals_of (length net.terminals)))

-- the line of the edition to which the centre goes back, or that it goes ahead
abbrev pub direction_line : Option EditionNo → List ℕ
direction_line None = ahead_line
direction_line (Some edition) = back_line edition

-- The lines of how the centre sees the air: the superframe that it takes for the present one, the status that it keeps, the last order
-- placed, the terminals that have still to confirm it, those that ask for their bursts, and the edition to which it goes back.
abbrev pub air_lines : Net → AirState → List ℕ
air_lines net air =
    superframe_line (where_marked (is_marked air) (mark_of air)) ++ kept_line (mark_of air) (centre_of air).kept
    ++ last_line (centre_of air).kept (last_order (orders_in air)) ++ missing_lines net (centre_of air) ++ asks_lines net (centre_of air)
    ++ direction_line (back_of air)
