use Rattle.std.proofs.Common.{◌≡◌, [], length, map, drop}
use Rattle.serde_json.specs.View.{view}
use Rattle.bt_net.specs.Reading.{through, with_beam}
use Rattle.bt_net.proofs.reading.add_beams.Given as goal

abbrev pub invariant-loop-entry : goal.invariant-loop-entry
invariant-loop-entry l = record {
  rest : through with_beam l.beams (map view (drop l.entry-index l.entries)) ≡ through with_beam [] (map view l.entries);
  count : length l.beams ≡ l.entry-index;
}
