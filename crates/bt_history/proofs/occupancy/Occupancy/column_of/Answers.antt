use Rattle.std.proofs.Common.{arith}
use Rattle.bt_history.proofs.Occupied.{in_matrix}
use Rattle.bt_history.proofs.occupancy.Occupancy.column_of.Goals as goal

-- the beam is one of the matrix
pub column_sum-requires : goal.column_sum-requires
column_sum-requires c =
    record { down = in_matrix c.self.inside.net c.self.inside.demand c.self.inside.matrix.rows c.beam_of-beam.result.0 c.self.invariant.0 c.beam_of-beam.ensures.in_range }

-- no line has more than a matrix may have
pub returns-clause-small : goal.returns-clause-small
returns-clause-small c =
    let within = in_matrix c.self.inside.net c.self.inside.demand c.self.inside.matrix.rows c.beam_of-beam.result.0 c.self.invariant.0 c.beam_of-beam.ensures.in_range in
    omega (arith, c.column_sum.ensures.sum, c.size-size.ensures.traffic.column_sums c.beam_of-beam.result.0 within)
