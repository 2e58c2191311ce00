-- where the attempt fits, its link and its lines have room, and what stood before stands
use Rattle.std.proofs.Common.{List, ℕ, ap, arith}
use Rattle.bt_matrix.specs.Traffic.{row_sum, column_sum}
use Rattle.bt_cut.proofs.Gained.{are_gained, gained_fits, in_matrix, link_within, matrix_gained}
use Rattle.bt_cut.proofs.made.try_link.Goals as goal

pub add-requires-clause-fits : goal.add-requires-clause-fits
add-requires-clause-fits c =
    let held = link_within c.args.net.now c.args.made.now.demand c.args.link.from c.args.link.to c.beam_of-up.result c.beam_of-down.result c.requires.stands.fits c.beam_of-up.ensures.beam c.beam_of-down.ensures.beam c.beam_of-up.ensures.in_range c.beam_of-down.ensures.in_range in
    omega (arith, held, c.slots-slots.ensures.same, c.slots-slots.ensures.in_range.1, c.requires.units.1)

pub add-requires-then-fits-clause-up : goal.add-requires-then-fits-clause-up
add-requires-then-fits-clause-up c = in_matrix c.args.net.now c.args.made.now.demand c.args.made.now.matrix c.beam_of-up.result.0 c.requires.stands.matrix c.beam_of-up.ensures.in_range

pub add-requires-then-fits-clause-down : goal.add-requires-then-fits-clause-down
add-requires-then-fits-clause-down c = in_matrix c.args.net.now c.args.made.now.demand c.args.made.now.matrix c.beam_of-down.result.0 c.requires.stands.matrix c.beam_of-down.ensures.in_range

pub add-requires-then-fits-clause-row : goal.add-requires-then-fits-clause-row
add-requires-then-fits-clause-row c =
    let row = (c.fits.ensures.fits c.if-fits.true).row c.beam_of-up.result c.beam_of-up.ensures.beam in
    let same = ap (λ (m : List (List ℕ)). row_sum m c.beam_of-up.result.0) c.requires.stands.matrix in
    omega (arith, row, same, c.slots-slots.ensures.same, c.slots-slots.ensures.in_range.1)

pub add-requires-then-fits-clause-column : goal.add-requires-then-fits-clause-column
add-requires-then-fits-clause-column c =
    let column = (c.fits.ensures.fits c.if-fits.true).column c.beam_of-down.result c.beam_of-down.ensures.beam in
    let same = ap (λ (m : List (List ℕ)). column_sum m c.beam_of-down.result.0) c.requires.stands.matrix in
    omega (arith, column, same, c.slots-slots.ensures.same, c.slots-slots.ensures.in_range.1)

pub returns-in_ok-add-clause-stands : goal.returns-in_ok-add-clause-stands
returns-in_ok-add-clause-stands c =
    let net = c.args.net.now in
    let old = c.args.made.now.demand in
    let new = c.add.new.self in
    let link = c.args.link in
    let up = c.beam_of-up.result in
    let down = c.beam_of-down.result in
    let room = c.fits.ensures.fits c.if-fits.true in
    record {
      terminals = are_gained net old new link.from link.to link.units c.requires.stands.terminals c.requires.ends c.in_ok-add.ensures.demand c.in_ok-add.ensures.ok;
      fits = gained_fits net old new link.from link.to link.units up down c.in_ok-add.ensures.ok c.beam_of-up.ensures.beam c.beam_of-down.ensures.beam c.beam_of-up.ensures.in_range c.beam_of-down.ensures.in_range
          c.requires.stands.fits (room.row up c.beam_of-up.ensures.beam) (room.column down c.beam_of-down.ensures.beam);
      matrix = matrix_gained net old new c.args.made.now.matrix c.add-then-fits.new.self link.from link.to link.units up down c.requires.stands.matrix c.in_ok-add.ensures.ok
          c.beam_of-up.ensures.beam c.beam_of-down.ensures.beam c.beam_of-up.ensures.in_range c.beam_of-down.ensures.in_range c.add-then-fits.ensures.rows;
    }
