use Rattle.std.proofs.Common.{◌≡◌, take}
use Rattle.bt_demand.specs.Rows.{all_links}
use Rattle.bt_demand.specs.Traffic.{matrix_of}
use Rattle.bt_demand.proofs.FlatPlaces.{flat_place}
use Rattle.bt_demand.proofs.traffic.traffic_of.Given as goal

-- the matrix is that of the links of the rows so far
abbrev pub invariant-loop-row : goal.invariant-loop-row
invariant-loop-row l = l.matrix ≡ matrix_of l.net (take (flat_place l.row-items l.row-index 0) (all_links l.row-items))

-- and of those of this row so far
abbrev pub invariant-loop-link : goal.invariant-loop-link
invariant-loop-link l = l.matrix ≡ matrix_of l.net (take (flat_place l.row-items l.row-index l.link-index) (all_links l.row-items))
