use Rattle.std.proofs.Common.{◌≡◌, ◌*◌, ◌≤◌, take}
use Rattle.bt_frame.specs.declared.limits.TheConstants.{MOST_SUM}
use Rattle.bt_demand.specs.Rows.{all_links}
use Rattle.bt_demand.proofs.FlatPlaces.{flat_place}
use Rattle.bt_cli.specs.Make.{units_in_all}
use Rattle.bt_cli.proofs.summary.units_in_all.Given as goal

-- the slots of the links of the rows so far
abbrev pub invariant-loop-row : goal.invariant-loop-row
invariant-loop-row l = record {
  so_far : l.units ≡ units_in_all (take (flat_place l.rows l.row-index 0) (all_links l.rows));
  small : l.units ≤ flat_place l.rows l.row-index 0 * MOST_SUM;
}

-- and of those of this row so far
abbrev pub invariant-loop-link : goal.invariant-loop-link
invariant-loop-link l = record {
  so_far : l.units ≡ units_in_all (take (flat_place l.rows l.row-index l.link-index) (all_links l.rows));
  small : l.units ≤ flat_place l.rows l.row-index l.link-index * MOST_SUM;
}
