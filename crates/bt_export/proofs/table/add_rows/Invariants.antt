-- the lines so far, and those of the rows that are left
use Rattle.std.proofs.Common.{◌≡◌, ◌++◌, length}
use Rattle.bt_export.specs.Table.{rows_of, traffic_lines}
use Rattle.bt_export.proofs.table.add_rows.Given as goal

abbrev pub invariant-loop-row : goal.invariant-loop-row
invariant-loop-row l = l.text.items ++ traffic_lines (rows_of l.rest) ≡ l.fn.text.items ++ traffic_lines (rows_of l.table)

abbrev pub decreases-loop-row : goal.decreases-loop-row
decreases-loop-row l = length l.rest
