-- the rows of the beams so far
use Rattle.std.proofs.Common.{◌≡◌, ◌++◌, take, flat_map}
use Rattle.bt_look.specs.Room.{beams_of}
use Rattle.bt_chart.specs.Page.{beam_rows}
use Rattle.bt_chart.proofs.beams.add_rows.Given as goal

abbrev pub invariant-loop-beam : goal.invariant-loop-beam
invariant-loop-beam l = l.out.items ≡ l.fn.out.items ++ flat_map (beam_rows l.net l.matrix) (take l.beam (beams_of l.net))
