use Rattle.std.proofs.Common.{◌≡◌, ◌<◌, ◌+◌, ℕ, List, Option, Vec, Global, length, map, ap, arith, subst, slice_index}
use Rattle.bt_matrix.specs.Traffic.{row_sum, column_sum, entry, with_entry}
use Rattle.bt_matrix.specs.Matrix.{Matrix}
use Rattle.bt_matrix.specs.Table.{rows_of}
use Rattle.bt_matrix.proofs.Tables.{length-rows_of}
use Rattle.bt_matrix.proofs.Moves.{sums-kept, whole_table}
use Rattle.bt_matrix.proofs.crosslinked.CrosslinkedTraffic.add.Goals as goal

abbrev lists : List (Vec (Option ℕ) Global) → List (List (Option ℕ))
lists table = map (λ (line : Vec (Option ℕ) Global). line.items) table

-- the sums are kept
pub invariant_of-self : goal.invariant_of-self
invariant_of-self c =
    let inside = c.self.inside in
    let old = inside.nodes.items in
    let table = lists inside.table.items in
    let matrix = rows_of old table in
    let up = c.args.up.0 in
    let down = c.args.down.0 in
    let is = c.self.invariant.0 in
    let n = entry matrix up down + c.args.units in
    let rows : rows_of c.raise_entry.new.nodes.items (lists c.raise_entry.new.table) ≡ with_entry matrix up down n =
    subst (λ (t : List (Vec (Option ℕ) Global)). rows_of c.raise_entry.new.nodes.items (lists c.raise_entry.new.table)
    ≡ with_entry (rows_of old (lists t)) up down (entry (rows_of old (lists t)) up down + c.args.units)) c.as_mut_slice.ensures.value c.raise_entry.ensures.rows in
    let whole = whole_table c.raise_entry.new.nodes.items old inside.table.items c.raise_entry.new.table up down n inside.table.len rows
    (omega (arith, c.as_mut_slice.ensures.len, ap (λ (t : List (Vec (Option ℕ) Global)). length t) c.as_mut_slice.ensures.value)) in
    let size = length-rows_of old table in
    let seen = ap (λ (m : Matrix). length m.rows) c.self.view_is in
    let in_rows : up < length table = omega (arith, size, seen) in
    let in_columns : down < length table = omega (arith, size, seen) in
    let up_in : up < length matrix = omega (arith, size) in
    let down_in : down < length matrix = omega (arith, size) in
    let row_is = is.sums.of_rows up up_in in
    let column_is = is.sums.of_columns down down_in in
    let row_seen = ap (λ (m : Matrix). row_sum m.rows up) c.self.view_is in
    let column_seen = ap (λ (m : Matrix). column_sum m.rows down) c.self.view_is in (
      rw whole (sums-kept old c.raise_entry.new.nodes.items table (lists c.raise_entry.new.table) inside.free.items c.raise_entry.new.free.items
          inside.row_sums inside.column_sums up down n (slice_index inside.row_sums up + c.args.units) (slice_index inside.column_sums down + c.args.units)
          is c.raise_entry.ensures.links c.raise_entry.ensures.listed rows in_rows in_columns c.self.told.0 c.self.told.1
          (omega arith) (omega arith) (omega (arith, row_is, row_seen)) (omega (arith, column_is, column_seen))),
      omega (arith, c.self.invariant.1, c.raise_entry.ensures.room, c.raise_entry.ensures.free),
      omega (arith, c.self.invariant.2, c.raise_entry.ensures.room),
    )
