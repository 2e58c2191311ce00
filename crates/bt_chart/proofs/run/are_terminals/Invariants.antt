-- all words are names of terminals where those that are left are
use Rattle.std.proofs.Common.{◌≡◌, length, map}
use Rattle.std.specs.List.{list_all}
use Rattle.std.specs.String.{string_bytes}
use Rattle.bt_chart.specs.Runs.{is_terminal}
use Rattle.bt_chart.proofs.run.are_terminals.Given as goal

abbrev pub invariant-loop-rest : goal.invariant-loop-rest
invariant-loop-rest l = list_all (is_terminal l.net) (map string_bytes l.fn.names) ≡ list_all (is_terminal l.net) (map string_bytes l.rest)

abbrev pub decreases-loop-rest : goal.decreases-loop-rest
decreases-loop-rest l = length l.rest
