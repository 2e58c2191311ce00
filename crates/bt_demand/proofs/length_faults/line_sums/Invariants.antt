use Rattle.std.proofs.Common.{take}
use Rattle.bt_demand.specs.Rows.{all_links}
use Rattle.bt_demand.specs.Traffic.{matrix_of}
use Rattle.bt_demand.proofs.FlatPlaces.{flat_place}
use Rattle.bt_demand.proofs.SumsSoFar.{HasSums}
use Rattle.bt_demand.proofs.length_faults.line_sums.Given as goal

-- the sums are those of the links of the rows so far
abbrev pub invariant-loop-sent : goal.invariant-loop-sent
invariant-loop-sent l = HasSums (matrix_of l.net (take (flat_place l.demand l.sent-index 0) (all_links l.demand))) l.rows l.columns

-- and of those of this row so far
abbrev pub invariant-loop-link : goal.invariant-loop-link
invariant-loop-link l = HasSums (matrix_of l.net (take (flat_place l.demand l.sent-index l.link-index) (all_links l.demand))) l.rows l.columns
