use Rattle.std.proofs.Common.{◌-◌, ◌<◌, ◌≤◌, ℕ, List, Vec, Global, length, map, ap, arith, refl, sym, ◌∙◌, slice_index}
use Rattle.std.specs.Vec.{with_item}
use Rattle.bt_matrix.specs.Traffic.{entry, with_entry}
use Rattle.bt_matrix.proofs.Lines.{length-lists, entry-le-row_sum, entry-le-column_sum}
use Rattle.bt_matrix.proofs.Writes.{length-row, entry-lists, IsWritten, IsWritten-set}
use Rattle.bt_matrix.proofs.dense.DenseTraffic.take.Goals as goal

-- the row of the entry, once the entry has lost its units
abbrev row_after : goal.After-self-3-1 → Vec ℕ Global
row_after c = with_item c.index_mut.result.now c.args.down.0 (c.index_mut-2.result.now - c.args.units)

-- what the three writes leave
written : (c : goal.After-self-3-1) → IsWritten c.self.inside.rows.items c.self.inside.row_sums c.self.inside.column_sums
    c.args.up.0 c.args.down.0 (c.index_mut-2.result.now - c.args.units) (slice_index c.self.inside.row_sums c.args.up.0 - c.args.units)
    (slice_index c.self.inside.column_sums c.args.down.0 - c.args.units) c.index_mut-2.result.now (row_after c)
written c =
    let rows = c.self.inside.rows.items in
    let size = length-lists rows in
    let same = ap length c.self.view_is in
    let in_rows : c.args.up.0 < length rows = omega (arith, same, size) in
    let in_columns : c.args.down.0 < length rows = omega (arith, same, size) in
    let lists = map (λ (row : Vec ℕ Global). row.items) rows in
    let keeps = c.self.invariant in
    let up_in : c.args.up.0 < length lists = omega (arith, size) in
    let long = length-row lists c.args.up.0 keeps.traffic up_in in
    let entry_is = entry-lists rows c.args.up.0 c.args.down.0 c.index_mut.result.now c.index_mut-2.result.now keeps.traffic in_rows in_columns
    c.index_mut.ensures.value c.index_mut-2.ensures.value in
    let entry_seen = ap (λ (m : List (List ℕ)). entry m c.args.up.0 c.args.down.0) c.self.view_is in
    let held : c.args.units ≤ c.index_mut-2.result.now = omega (arith, entry_is, entry_seen) in
    let row_is = keeps.of_rows c.args.up.0 up_in in
    let column_is = keeps.of_columns c.args.down.0 (omega (arith, size)) in
    let in_row = entry-le-row_sum lists c.args.up.0 c.args.down.0 (omega (arith, long, size)) in
    let in_column = entry-le-column_sum lists c.args.up.0 c.args.down.0 up_in in
    let row_fits = keeps.traffic.row_sums c.args.up.0 up_in in
    let column_fits = keeps.traffic.column_sums c.args.down.0 (omega (arith, size)) in
    IsWritten-set rows c.self.inside.row_sums c.self.inside.column_sums c.args.up.0 c.args.down.0
    (c.index_mut-2.result.now - c.args.units) (slice_index c.self.inside.row_sums c.args.up.0 - c.args.units)
    (slice_index c.self.inside.column_sums c.args.down.0 - c.args.units) c.index_mut-2.result.now c.index_mut.result.now (row_after c)
    c.self.invariant in_rows in_columns c.self.told c.index_mut.ensures.value c.index_mut-2.ensures.value refl
    (omega (arith, row_is, in_row, entry_is)) (omega (arith, column_is, in_column, entry_is))
    (omega (arith, row_is, row_fits)) (omega (arith, column_is, column_fits))

-- the sums are kept
pub invariant_of-self : goal.invariant_of-self
invariant_of-self c = (written c).sums

-- the entry has lost its units
pub returns-clause-rows : goal.returns-clause-rows
returns-clause-rows c =
    let w = written c in
    let lists = map (λ (row : Vec ℕ Global). row.items) c.self.inside.rows.items in
    rw (← c.self.view_is)
    (w.view ∙ ap (λ (n : ℕ). with_entry lists c.args.up.0 c.args.down.0 (n - c.args.units)) (sym w.was))
