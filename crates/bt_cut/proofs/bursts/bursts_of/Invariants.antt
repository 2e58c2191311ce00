use Rattle.std.proofs.Common.{◌*◌, ◌≤◌, length, take}
use Rattle.bt_demand.specs.Rows.{all_links}
use Rattle.bt_demand.specs.Traffic.{units_between}
use Rattle.bt_demand.proofs.FlatPlaces.{flat_place}
use Rattle.bt_cut.specs.Parts.{AreParts}
use Rattle.bt_cut.specs.Serving.{IsTable}
use Rattle.bt_cut.proofs.bursts.bursts_of.Given as goal

-- the bursts of the links of the rows so far, and what they left
abbrev pub invariant-loop-row : goal.invariant-loop-row
invariant-loop-row l = record {
  table : IsTable l.modes (length l.net.beams) (length l.modes) (units_between l.net (take (flat_place l.row-items l.row-index 0) (all_links l.row-items))) l.connections.items;
  parts : AreParts l.net (all_links l.row-items) l.modes (flat_place l.row-items l.row-index 0) l.bursts.items;
  few : length l.bursts.items ≤ flat_place l.row-items l.row-index 0 * 4096;
}

-- and of those of this row so far
abbrev pub invariant-loop-link : goal.invariant-loop-link
invariant-loop-link l = record {
  table : IsTable l.modes (length l.net.beams) (length l.modes) (units_between l.net (take (flat_place l.row-items l.row-index l.link-index) (all_links l.row-items))) l.connections.items;
  parts : AreParts l.net (all_links l.row-items) l.modes (flat_place l.row-items l.row-index l.link-index) l.bursts.items;
  few : length l.bursts.items ≤ flat_place l.row-items l.row-index l.link-index * 4096;
}
