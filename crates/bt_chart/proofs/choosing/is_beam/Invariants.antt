-- none of the beams so far has that name
use Rattle.std.proofs.Common.{◌≡◌, false, take}
use Rattle.std.specs.List.{list_any}
use Rattle.std.specs.Str.{bytes_eq}
use Rattle.bt_chart.proofs.choosing.is_beam.Given as goal

abbrev pub invariant-loop-beam : goal.invariant-loop-beam
invariant-loop-beam l = list_any (bytes_eq l.word) (take l.beam l.net.beams) ≡ false
