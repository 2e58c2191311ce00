use Rattle.std.proofs.Common.{◌≡◌, [], length, map, drop}
use Rattle.serde_json.specs.View.{view}
use Rattle.bt_net.specs.Reading.{through, with_terminal}
use Rattle.bt_net.proofs.reading.add_terminals.Given as goal

abbrev pub invariant-loop-entry : goal.invariant-loop-entry
invariant-loop-entry l = record {
  rest : through (with_terminal l.beams) l.terminals (map view (drop l.entry-index l.entries)) ≡ through (with_terminal l.beams) [] (map view l.entries);
  count : length l.terminals ≡ l.entry-index;
}
