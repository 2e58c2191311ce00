-- the line of one row more
use Rattle.std.proofs.Common.{◌++◌}
use Rattle.bt_export.specs.Table.{rows_of, traffic_lines}
use Rattle.bt_export.proofs.Rows.{one_further}
use Rattle.bt_export.proofs.table.add_rows.Goals as goal

pub loop-row-preserved : goal.loop-row-preserved
loop-row-preserved c =
    one_further c.loop-row.text.items c.add_row.new.text.items c.in-Some.row.now (c.args.text.now.items ++ traffic_lines (rows_of c.args.table.now)) c.in-Some.behind.now c.loop-row.rest.now
    c.in-Some.ensures.line c.loop-row.invariant c.in_ok-add_row.ensures.added
