use Rattle.std.proofs.Common.{◌≡◌, ◌++◌, filter, flat_map}
use Rattle.bt_machines.specs.Centre.{is_missing}
use Rattle.bt_machines.specs.Terminals.{terminals_of}
use Rattle.bt_timeline.specs.OnAir.{missing_line}
use Rattle.bt_round.proofs.on_air.tell_missing.Given as goal

-- the lines of the terminals so far
abbrev pub invariant-loop-number : goal.invariant-loop-number
invariant-loop-number l = l.text.items ≡ l.fn.text.items ++ flat_map (missing_line l.net) (filter (is_missing l.centre) (terminals_of l.number))
