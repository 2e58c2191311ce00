use Rattle.std.proofs.Common.{◌∙◌, arith}
use Rattle.bt_demand.proofs.FlatPlaces.{flat_end}
use Rattle.bt_cli.proofs.RowsCounted.{row_counted}
use Rattle.bt_cli.proofs.summary.link_count.Goals as goal

-- with those of one row more there are no more than all
pub overflow_add-count : goal.overflow_add-count
overflow_add-count c =
    let row = row_counted c.args.rows.now c.loop-row.row-index _ _ c.loop-row-test.true c.as_slice.ensures.same c.row-item.is in
    omega (arith, row.within, c.loop-row.invariant, c.requires)

-- the links of one row more
pub loop-row-preserved : goal.loop-row-preserved
loop-row-preserved c =
    let row = row_counted c.args.rows.now c.loop-row.row-index _ _ c.loop-row-test.true c.as_slice.ensures.same c.row-item.is in
    omega (arith, row.next, c.loop-row.invariant)

-- those of all rows
pub returns : goal.returns
returns c = c.loop-row.invariant ∙ flat_end c.args.rows.now c.loop-row.row-index c.loop-row-test.false
