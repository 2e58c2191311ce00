-- some word names a beam where one of those that are left does
use Rattle.std.proofs.Common.{◌≡◌, length, map}
use Rattle.std.specs.List.{list_any}
use Rattle.std.specs.String.{string_bytes}
use Rattle.bt_chart.specs.Choosing.{is_beam}
use Rattle.bt_chart.proofs.choosing.any_beam.Given as goal

abbrev pub invariant-loop-rest : goal.invariant-loop-rest
invariant-loop-rest l = list_any (is_beam l.net) (map string_bytes l.fn.words) ≡ list_any (is_beam l.net) (map string_bytes l.rest)

abbrev pub decreases-loop-rest : goal.decreases-loop-rest
decreases-loop-rest l = length l.rest
