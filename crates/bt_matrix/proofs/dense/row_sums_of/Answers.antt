use Rattle.std.proofs.Common.{◌<◌, length, map, arith, ◌∙◌, sym}
use Rattle.bt_matrix.specs.Traffic.{row_sum}
use Rattle.bt_matrix.proofs.Lines.{IsFilled-set, row_sum-lists, length-lists}
use Rattle.bt_matrix.proofs.dense.row_sums_of.Goals as goal

-- the row's sum is within the limit
pub sum_of-requires : goal.sum_of-requires
sum_of-requires c =
    let rows = c.args.rows.now in
    let is = row_sum-lists rows c.loop-up.up c.index-rows-up.result c.as_slice.result.now c.loop-up-test.true c.index-rows-up.is c.as_slice.ensures.value in
    let within : c.loop-up.up < length (map (λ row. row.items) rows) = omega (arith, length-lists rows) in
    omega (arith, is, c.requires.row_sums c.loop-up.up within)

pub loop-up-preserved : goal.loop-up-preserved
loop-up-preserved c =
    let rows = c.args.rows.now in
    let is = row_sum-lists rows c.loop-up.up c.index-rows-up.result c.as_slice.result.now c.loop-up-test.true c.index-rows-up.is c.as_slice.ensures.value in
    IsFilled-set (row_sum (map (λ row. row.items) rows)) c.loop-up.sums c.loop-up.up c.sum_of.result
    (omega (arith, length-lists rows, c.requires.few_beams)) (c.sum_of.ensures ∙ sym is) c.loop-up.invariant
