use Rattle.std.proofs.Common.{arith}
use Rattle.bt_history.proofs.Lengths.{gained-heaviest}
use Rattle.bt_history.proofs.Occupied.{small_inside, in_matrix, in_row_of, has_room, matrix-more}
use Rattle.bt_history.proofs.occupancy.Occupancy.gain.Goals as goal

-- the link has room
pub add_reserved-requires-clause-fits : goal.add_reserved-requires-clause-fits
add_reserved-requires-clause-fits c =
    (has_room c.self.inside.net c.self.inside.demand c.self.inside.matrix.rows c.args.from c.args.to c.get-slots.result c.beam_of-up.result c.beam_of-down.result c.self.invariant.0 (small_inside _ _ c.self.view_is c.requires.small) c.get-slots.ensures.in_range.1 c.beam_of-up.ensures.beam c.beam_of-down.ensures.beam c.beam_of-up.ensures.in_range c.beam_of-down.ensures.in_range).link

-- both beams are on the matrix
pub add-requires-clause-up : goal.add-requires-clause-up
add-requires-clause-up c = in_matrix c.self.inside.net c.self.inside.demand c.self.inside.matrix.rows c.beam_of-up.result.0 c.self.invariant.0 c.beam_of-up.ensures.in_range

pub add-requires-clause-down : goal.add-requires-clause-down
add-requires-clause-down c = in_matrix c.self.inside.net c.self.inside.demand c.self.inside.matrix.rows c.beam_of-down.result.0 c.self.invariant.0 c.beam_of-down.ensures.in_range

-- their lines have room
pub add-requires-clause-row : goal.add-requires-clause-row
add-requires-clause-row c =
    (has_room c.self.inside.net c.self.inside.demand c.self.inside.matrix.rows c.args.from c.args.to c.get-slots.result c.beam_of-up.result c.beam_of-down.result c.self.invariant.0 (small_inside _ _ c.self.view_is c.requires.small) c.get-slots.ensures.in_range.1 c.beam_of-up.ensures.beam c.beam_of-down.ensures.beam c.beam_of-up.ensures.in_range c.beam_of-down.ensures.in_range).row

pub add-requires-clause-column : goal.add-requires-clause-column
add-requires-clause-column c =
    (has_room c.self.inside.net c.self.inside.demand c.self.inside.matrix.rows c.args.from c.args.to c.get-slots.result c.beam_of-up.result c.beam_of-down.result c.self.invariant.0 (small_inside _ _ c.self.view_is c.requires.small) c.get-slots.ensures.in_range.1 c.beam_of-up.ensures.beam c.beam_of-down.ensures.beam c.beam_of-up.ensures.in_range c.beam_of-down.ensures.in_range).column

-- both beams are on it still
pub greater_sum-requires-clause-up : goal.greater_sum-requires-clause-up
greater_sum-requires-clause-up c =
    let next = matrix-more c.self.inside.net c.self.inside.demand c.add_reserved.new.self c.self.inside.matrix.rows c.add.new.self.rows c.args.from c.args.to c.get-slots.result c.beam_of-up.result c.beam_of-down.result
    c.self.invariant.0 c.add_reserved.ensures.gains c.beam_of-up.ensures.beam c.beam_of-down.ensures.beam c.beam_of-up.ensures.in_range c.beam_of-down.ensures.in_range c.add.ensures.rows in
    in_matrix c.self.inside.net c.add_reserved.new.self c.add.new.self.rows c.beam_of-up.result.0 next c.beam_of-up.ensures.in_range

pub greater_sum-requires-clause-down : goal.greater_sum-requires-clause-down
greater_sum-requires-clause-down c =
    let next = matrix-more c.self.inside.net c.self.inside.demand c.add_reserved.new.self c.self.inside.matrix.rows c.add.new.self.rows c.args.from c.args.to c.get-slots.result c.beam_of-up.result c.beam_of-down.result
    c.self.invariant.0 c.add_reserved.ensures.gains c.beam_of-up.ensures.beam c.beam_of-down.ensures.beam c.beam_of-up.ensures.in_range c.beam_of-down.ensures.in_range c.add.ensures.rows in
    in_matrix c.self.inside.net c.add_reserved.new.self c.add.new.self.rows c.beam_of-down.result.0 next c.beam_of-down.ensures.in_range

-- the entry of the link's beams has gained, and the greatest sum is that of one of its lines where these have more
pub invariant_of-self : goal.invariant_of-self
invariant_of-self c =
    let in_rows = in_matrix c.self.inside.net c.self.inside.demand c.self.inside.matrix.rows c.beam_of-up.result.0 c.self.invariant.0 c.beam_of-up.ensures.in_range in
    let in_columns = in_matrix c.self.inside.net c.self.inside.demand c.self.inside.matrix.rows c.beam_of-down.result.0 c.self.invariant.0 c.beam_of-down.ensures.in_range in
    let in_row = in_row_of c.self.inside.net c.self.inside.demand c.self.inside.matrix.rows c.beam_of-up.result.0 c.beam_of-down.result.0 c.self.invariant.0 c.beam_of-up.ensures.in_range c.beam_of-down.ensures.in_range in (
      matrix-more c.self.inside.net c.self.inside.demand c.add_reserved.new.self c.self.inside.matrix.rows c.add.new.self.rows c.args.from c.args.to c.get-slots.result c.beam_of-up.result c.beam_of-down.result
          c.self.invariant.0 c.add_reserved.ensures.gains c.beam_of-up.ensures.beam c.beam_of-down.ensures.beam c.beam_of-up.ensures.in_range c.beam_of-down.ensures.in_range c.add.ensures.rows,
      c.add_reserved.ensures.no_links,
      c.add_reserved.ensures.no_rows,
      gained-heaviest c.self.inside.matrix.rows c.add.new.self.rows c.beam_of-up.result.0 c.beam_of-down.result.0 c.get-slots.result c.self.inside.length c.greater_sum.result c.max-self-inside.result c.self.invariant.3.0
          in_rows in_columns in_row c.add.ensures.rows c.self.invariant.3.1 (record { row = c.greater_sum.ensures.row; column = c.greater_sum.ensures.column; one = c.greater_sum.ensures.one })
          (omega (arith, c.max-self-inside.ensures)) (omega (arith, c.max-self-inside.ensures)) (λ other. omega (arith, c.max-self-inside.ensures)),
    )
