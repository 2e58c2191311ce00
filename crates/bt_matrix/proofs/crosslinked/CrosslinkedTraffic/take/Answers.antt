use Rattle.std.proofs.Common.{◌≡◌, ◌<◌, ◌≤◌, ◌-◌, ℕ, List, Option, Vec, Global, length, map, ap, arith, subst, slice_index}
use Rattle.bt_matrix.specs.Traffic.{entry, with_entry}
use Rattle.bt_matrix.proofs.Lines.{entry-le-row_sum, entry-le-column_sum}
use Rattle.bt_matrix.proofs.Writes.{length-row}
use Rattle.bt_matrix.specs.Matrix.{Matrix}
use Rattle.bt_matrix.specs.Table.{rows_of}
use Rattle.bt_matrix.proofs.Tables.{length-rows_of}
use Rattle.bt_matrix.proofs.Moves.{sums-kept, whole_table}
use Rattle.bt_matrix.proofs.crosslinked.CrosslinkedTraffic.take.Goals as goal

abbrev lists : List (Vec (Option ℕ) Global) → List (List (Option ℕ))
lists table = map (λ (line : Vec (Option ℕ) Global). line.items) table

-- the sums are kept
pub invariant_of-self : goal.invariant_of-self
invariant_of-self c =
    let inside = c.self.inside in
    let old = inside.nodes.items in
    let table = lists inside.table.items in
    let matrix = rows_of old table in
    let up = c.args.up.0 in
    let down = c.args.down.0 in
    let is = c.self.invariant.0 in
    let n = entry matrix up down - c.args.units in
    let rows : rows_of c.lower_entry.new.nodes.items (lists c.lower_entry.new.table) ≡ with_entry matrix up down n =
    subst (λ (t : List (Vec (Option ℕ) Global)). rows_of c.lower_entry.new.nodes.items (lists c.lower_entry.new.table)
    ≡ with_entry (rows_of old (lists t)) up down (entry (rows_of old (lists t)) up down - c.args.units)) c.as_mut_slice.ensures.value c.lower_entry.ensures.rows in
    let whole = whole_table c.lower_entry.new.nodes.items old inside.table.items c.lower_entry.new.table up down n inside.table.len rows
    (omega (arith, c.as_mut_slice.ensures.len, ap (λ (t : List (Vec (Option ℕ) Global)). length t) c.as_mut_slice.ensures.value)) in
    let size = length-rows_of old table in
    let seen = ap (λ (m : Matrix). length m.rows) c.self.view_is in
    let in_rows : up < length table = omega (arith, size, seen) in
    let in_columns : down < length table = omega (arith, size, seen) in
    let up_in : up < length matrix = omega (arith, size) in
    let down_in : down < length matrix = omega (arith, size) in
    let row_is = is.sums.of_rows up up_in in
    let column_is = is.sums.of_columns down down_in in
    let entry_seen = ap (λ (m : Matrix). entry m.rows up down) c.self.view_is in
    let held : c.args.units ≤ entry matrix up down = omega (arith, entry_seen) in
    let long = length-row matrix up is.sums.traffic up_in in
    let in_row = entry-le-row_sum matrix up down (omega (arith, long)) in
    let in_column = entry-le-column_sum matrix up down up_in in
    let row_fits = is.sums.traffic.row_sums up up_in in
    let column_fits = is.sums.traffic.column_sums down down_in in (
      rw whole (sums-kept old c.lower_entry.new.nodes.items table (lists c.lower_entry.new.table) inside.free.items c.lower_entry.new.free.items
          inside.row_sums inside.column_sums up down n (slice_index inside.row_sums up - c.args.units) (slice_index inside.column_sums down - c.args.units)
          is c.lower_entry.ensures.links c.lower_entry.ensures.listed rows in_rows in_columns c.self.told.0 c.self.told.1
          (omega (arith, row_is, in_row, held)) (omega (arith, column_is, in_column, held)) (omega (arith, row_is, row_fits)) (omega (arith, column_is, column_fits))),
      omega (arith, c.self.invariant.1, c.lower_entry.ensures.room, c.lower_entry.ensures.free),
      omega (arith, c.self.invariant.2, c.lower_entry.ensures.room),
    )
