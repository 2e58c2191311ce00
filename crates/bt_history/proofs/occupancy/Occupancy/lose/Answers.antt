use Rattle.bt_demand.specs.Traffic.{matrix_of}
use Rattle.bt_history.proofs.Lengths.{lost-heaviest}
use Rattle.bt_history.proofs.Occupied.{in_matrix, in_row_of, matrix-Loses, matrix-less}
use Rattle.bt_history.proofs.occupancy.Occupancy.lose.Goals as goal

-- both beams are on the matrix
pub take-requires-2-clause-up : goal.take-requires-2-clause-up
take-requires-2-clause-up c = in_matrix c.self.inside.net c.self.inside.demand c.self.inside.matrix.rows c.beam_of-up.result.0 c.self.invariant.0 c.beam_of-up.ensures.in_range

pub take-requires-2-clause-down : goal.take-requires-2-clause-down
take-requires-2-clause-down c = in_matrix c.self.inside.net c.self.inside.demand c.self.inside.matrix.rows c.beam_of-down.result.0 c.self.invariant.0 c.beam_of-down.ensures.in_range

pub greater_sum-was-requires-clause-up : goal.greater_sum-was-requires-clause-up
greater_sum-was-requires-clause-up c = in_matrix c.self.inside.net c.self.inside.demand c.self.inside.matrix.rows c.beam_of-up.result.0 c.self.invariant.0 c.beam_of-up.ensures.in_range

pub greater_sum-was-requires-clause-down : goal.greater_sum-was-requires-clause-down
greater_sum-was-requires-clause-down c = in_matrix c.self.inside.net c.self.inside.demand c.self.inside.matrix.rows c.beam_of-down.result.0 c.self.invariant.0 c.beam_of-down.ensures.in_range

-- the entry of the link's beams has what the link had
pub take-requires-2-clause-held : goal.take-requires-2-clause-held
take-requires-2-clause-held c =
    (matrix-Loses c.self.inside.net c.self.inside.demand c.take.new.self c.self.inside.matrix.rows c.args.from c.args.to c.get-slots.result c.beam_of-up.result c.beam_of-down.result c.self.invariant.0 c.take.ensures.loses c.beam_of-up.ensures.beam c.beam_of-down.ensures.beam c.beam_of-up.ensures.in_range c.beam_of-down.ensures.in_range).held

-- and loses as much; the greatest sum was that of one of its lines, and is found anew
pub invariant_of-self : goal.invariant_of-self
invariant_of-self c =
    let loses = matrix-Loses c.self.inside.net c.self.inside.demand c.take.new.self c.self.inside.matrix.rows c.args.from c.args.to c.get-slots.result c.beam_of-up.result c.beam_of-down.result c.self.invariant.0 c.take.ensures.loses c.beam_of-up.ensures.beam c.beam_of-down.ensures.beam c.beam_of-up.ensures.in_range c.beam_of-down.ensures.in_range in
    (matrix-less c.self.inside.matrix.rows c.take-2.new.self.rows (matrix_of c.self.inside.net c.take.new.self) c.beam_of-up.result.0 c.beam_of-down.result.0 c.get-slots.result loses c.take-2.ensures.rows, c.self.invariant.1, c.self.invariant.2, (c.heaviest.result.0, c.heaviest.ensures.heaviest))

-- or was that of another line, and stays
pub invariant_of-self-else-was-self : goal.invariant_of-self-else-was-self
invariant_of-self-else-was-self c =
    let loses = matrix-Loses c.self.inside.net c.self.inside.demand c.take.new.self c.self.inside.matrix.rows c.args.from c.args.to c.get-slots.result c.beam_of-up.result c.beam_of-down.result c.self.invariant.0 c.take.ensures.loses c.beam_of-up.ensures.beam c.beam_of-down.ensures.beam c.beam_of-up.ensures.in_range c.beam_of-down.ensures.in_range in
    let in_rows = in_matrix c.self.inside.net c.self.inside.demand c.self.inside.matrix.rows c.beam_of-up.result.0 c.self.invariant.0 c.beam_of-up.ensures.in_range in
    let in_columns = in_matrix c.self.inside.net c.self.inside.demand c.self.inside.matrix.rows c.beam_of-down.result.0 c.self.invariant.0 c.beam_of-down.ensures.in_range in
    let in_row = in_row_of c.self.inside.net c.self.inside.demand c.self.inside.matrix.rows c.beam_of-up.result.0 c.beam_of-down.result.0 c.self.invariant.0 c.beam_of-up.ensures.in_range c.beam_of-down.ensures.in_range in (
      matrix-less c.self.inside.matrix.rows c.take-2.new.self.rows (matrix_of c.self.inside.net c.take.new.self) c.beam_of-up.result.0 c.beam_of-down.result.0 c.get-slots.result loses c.take-2.ensures.rows,
      c.self.invariant.1,
      c.self.invariant.2,
      lost-heaviest c.self.inside.matrix.rows c.take-2.new.self.rows c.beam_of-up.result.0 c.beam_of-down.result.0 c.get-slots.result c.self.inside.length c.greater_sum-was.result c.self.invariant.3.0
          in_rows in_columns in_row c.take-2.ensures.rows c.self.invariant.3.1 (record { row = c.greater_sum-was.ensures.row; column = c.greater_sum-was.ensures.column; one = c.greater_sum-was.ensures.one })
          c.if-was-self.false,
    )
