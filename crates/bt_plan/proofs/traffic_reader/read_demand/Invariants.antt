-- the links so far, and those of the lines that are left, are those of the text
use Rattle.std.proofs.Common.{◌≡◌, ◌+◌, [], length}
use Rattle.bt_text.specs.Text.{lines}
use Rattle.bt_plan.specs.TrafficText.{links_in, AreRead}
use Rattle.bt_plan.proofs.traffic_reader.read_demand.Given as goal

abbrev pub invariant-loop-line : goal.invariant-loop-line
invariant-loop-line l = record {
  reading : links_in l.net l.at l.links (lines l.rest) ≡ links_in l.net 1 [] (lines l.bytes);
  read : AreRead l.net l.links l.matrix;
  count : l.at ≡ 1 + length l.links;
}

abbrev pub decreases-loop-line : goal.decreases-loop-line
decreases-loop-line l = length l.rest
