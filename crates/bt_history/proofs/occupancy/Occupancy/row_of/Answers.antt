use Rattle.bt_history.proofs.Occupied.{in_matrix}
use Rattle.bt_history.proofs.occupancy.Occupancy.row_of.Goals as goal

-- the beam is one of the matrix
pub row_sum-requires : goal.row_sum-requires
row_sum-requires c = record { up = in_matrix c.self.inside.net c.self.inside.demand c.self.inside.matrix.rows c.beam_of-beam.result.0 c.self.invariant.0 c.beam_of-beam.ensures.in_range }
