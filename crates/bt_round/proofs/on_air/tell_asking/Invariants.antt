use Rattle.std.proofs.Common.{◌≡◌, ◌++◌, filter, flat_map}
use Rattle.bt_frame.specs.declared.numbers.TermNo.{TermNo}
use Rattle.bt_machines.specs.Terminals.{has, terminals_of}
use Rattle.bt_timeline.specs.OnAir.{asks_line}
use Rattle.bt_round.proofs.on_air.tell_asking.Given as goal

-- the lines of the terminals so far
abbrev pub invariant-loop-number : goal.invariant-loop-number
invariant-loop-number l = l.text.items ≡ l.fn.text.items ++ flat_map (asks_line l.net) (filter (λ (terminal : TermNo). has l.centre.asking terminal) (terminals_of l.number))
