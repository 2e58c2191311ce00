-- the words choose a part where those that are left do
use Rattle.std.proofs.Common.{◌≡◌, length, map}
use Rattle.std.specs.String.{string_bytes}
use Rattle.bt_chart.specs.Choosing.{are_parts}
use Rattle.bt_chart.proofs.choosing.are_parts.Given as goal

abbrev pub invariant-loop-rest : goal.invariant-loop-rest
invariant-loop-rest l = are_parts l.net (map string_bytes l.fn.words) ≡ are_parts l.net (map string_bytes l.rest)

abbrev pub decreases-loop-rest : goal.decreases-loop-rest
decreases-loop-rest l = length l.rest
