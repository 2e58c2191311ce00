use Rattle.std.proofs.Common.{◌≡◌, ◌++◌, take, flat_map}
use Rattle.bt_look.specs.Room.{beams_of}
use Rattle.bt_export.specs.Metrics.{asked_lines}
use Rattle.bt_export.proofs.metrics.add_asked.Given as goal

-- the lines of the beams so far
abbrev pub invariant-loop-beam : goal.invariant-loop-beam
invariant-loop-beam l = l.out.items ≡ l.fn.out.items ++ flat_map (asked_lines l.net l.matrix) (take l.beam (beams_of l.net))
