use Rattle.std.proofs.Common.{◌≡◌}
use Rattle.bt_demand.proofs.FlatPlaces.{flat_place}
use Rattle.bt_cli.proofs.summary.link_count.Given as goal

-- the links of the rows so far
abbrev pub invariant-loop-row : goal.invariant-loop-row
invariant-loop-row l = l.count ≡ flat_place l.rows l.row-index 0
