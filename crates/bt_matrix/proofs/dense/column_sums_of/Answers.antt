use Rattle.std.proofs.Common.{◌<◌, length, map, arith, ◌∙◌, sym}
use Rattle.bt_matrix.specs.Traffic.{column_sum}
use Rattle.bt_matrix.proofs.Lines.{IsFilled-set, vec_len-row, length-lists, column_sum-lists}
use Rattle.bt_matrix.proofs.dense.column_sums_of.Goals as goal

-- every row is long enough
pub column_sum_of-requires-clause-long : goal.column_sum_of-requires-clause-long
column_sum_of-requires-clause-long c =
    λ k d within. omega (arith, vec_len-row c.args.rows.now k d c.requires within)

-- the column's sum is within the limit
pub column_sum_of-requires-clause-small : goal.column_sum_of-requires-clause-small
column_sum_of-requires-clause-small c =
    let rows = c.args.rows.now in
    let within : c.loop-down.down < length (map (λ row. row.items) rows) = omega (arith, length-lists rows) in
    rw (← column_sum-lists rows c.loop-down.down) (c.requires.column_sums c.loop-down.down within)

pub loop-down-preserved : goal.loop-down-preserved
loop-down-preserved c =
    let rows = c.args.rows.now in
    IsFilled-set (column_sum (map (λ row. row.items) rows)) c.loop-down.sums c.loop-down.down c.column_sum_of.result
    (omega (arith, length-lists rows, c.requires.few_beams)) (c.column_sum_of.ensures ∙ sym (column_sum-lists rows c.loop-down.down))
    c.loop-down.invariant
