-- the last word is that of those that are left
use Rattle.std.proofs.Common.{◌≡◌, length, map}
use Rattle.std.specs.String.{string_bytes}
use Rattle.bt_chart.specs.Choosing.{slots_in}
use Rattle.bt_chart.proofs.choosing.slots_in.Given as goal

abbrev pub invariant-loop-rest : goal.invariant-loop-rest
invariant-loop-rest l = slots_in l.slots (map string_bytes l.fn.words) ≡ slots_in l.slots (map string_bytes l.rest)

abbrev pub decreases-loop-rest : goal.decreases-loop-rest
decreases-loop-rest l = length l.rest
