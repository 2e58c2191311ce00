use Rattle.std.proofs.Common.{◌≡◌, ◌++◌, take, flat_map}
use Rattle.bt_look.specs.Room.{beams_of}
use Rattle.bt_export.specs.Metrics.{free_lines}
use Rattle.bt_export.proofs.metrics.add_free.Given as goal

-- the lines of the beams so far
abbrev pub invariant-loop-beam : goal.invariant-loop-beam
invariant-loop-beam l = l.out.items ≡ l.fn.out.items ++ flat_map (free_lines l.net l.matrix) (take l.beam (beams_of l.net))
