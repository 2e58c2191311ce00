-- those found so far are terminals of the network
use Rattle.std.proofs.Common.{All}
use Rattle.bt_net.specs.Terminals.{IsTerminal}
use Rattle.bt_chart.proofs.run.terminals_named.Given as goal

abbrev pub invariant-loop-name : goal.invariant-loop-name
invariant-loop-name l = All (IsTerminal l.net) l.chosen.items
