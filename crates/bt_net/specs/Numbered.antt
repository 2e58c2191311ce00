-- The network of so many beams whose names are numbers behind a letter, for trials of any size.
use Rattle.std.specs.Prelude.{ℕ, ◌*◌, ◌%◌, ◌++◌, List, map, codes, decimal}
use Rattle.std.specs.List.{range_with_len}
use Rattle.bt_frame.specs.declared.limits.TheConstants.{MOST_SLOTS, MOST_BOOK_BYTES}
use Rattle.bt_frame.specs.declared.numbers.BeamNo.{BeamNo}
use Rattle.bt_net.specs.Network.{Net}

-- the name of a beam, such as `b0`
abbrev pub numbered_beam : ℕ → List ℕ
numbered_beam number = codes "b" ++ decimal number

-- a terminal of so many beams, such as `t0`: the beams take turns
abbrev pub numbered_terminal : ℕ → ℕ → List ℕ × BeamNo
numbered_terminal beams number = (codes "t" ++ decimal number, record { 0 = number % beams })

-- the beams
abbrev pub numbered_beams : ℕ → List (List ℕ)
numbered_beams beams = map numbered_beam (range_with_len 0 beams)

-- the first so many terminals of so many beams
abbrev pub numbered_terminals : ℕ → ℕ → List (List ℕ × BeamNo)
numbered_terminals beams count = map (numbered_terminal beams) (range_with_len 0 count)

-- the network of so many beams: four terminals in each, 32 frames, a lead of 4 superframes and a patience of 3 turns
abbrev pub numbered_network : ℕ → Net
numbered_network beams = record {
  beams = numbered_beams beams;
  terminals = numbered_terminals beams (4 * beams);
  slots = MOST_SLOTS;
  frames = 32;
  lead = 4;
  patience = 3;
  journal = MOST_BOOK_BYTES;
}
