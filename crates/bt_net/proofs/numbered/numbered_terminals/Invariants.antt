use Rattle.std.proofs.Common.{◌≡◌}
use Rattle.bt_net.specs.Numbered.{numbered_terminals}
use Rattle.bt_net.proofs.numbered.numbered_terminals.Given as goal

abbrev pub invariant-loop-number : goal.invariant-loop-number
invariant-loop-number l = l.terminals ≡ numbered_terminals l.beams l.number
