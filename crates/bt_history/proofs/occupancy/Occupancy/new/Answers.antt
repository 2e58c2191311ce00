use Rattle.bt_history.proofs.Occupied.{matrix_of-start}
use Rattle.bt_history.proofs.occupancy.Occupancy.new.Goals as goal

-- no link, and a matrix of zeros
pub invariant_of-result : goal.invariant_of-result
invariant_of-result c = (
  matrix_of-start c.in_ok-net.net _ _ _ c.empty.ensures.empty c.beam_count.ensures.count c.in_ok-matrix.ensures.zeros,
  c.new-2.ensures.no_links,
  c.new-2.ensures.no_rows,
  (c.heaviest-length.result.0, c.heaviest-length.ensures.heaviest),
)
