-- one row more, a line that is no row, and what stands behind the last row
use Rattle.std.proofs.Common.{map, sym, arith}
use Rattle.std.proofs.lemmas.Result.{err_from_is_err_and}
use Rattle.std.proofs.lemmas.List.{map_push}
use Rattle.bt_text.specs.Text.{lines}
use Rattle.bt_plan.specs.MatrixText.{rows_in}
use Rattle.bt_plan.proofs.Rows.{goes_on, ends, ends_late}
use Rattle.bt_plan.proofs.matrix_reader.read_rows.Goals as goal

pub returns-in_err-read_row : goal.returns-in_err-read_row
returns-in_err-read_row c =
    let p = err_from_is_err_and c.from_residual-in_err-read_row.result c.from_residual-in_err-read_row.ensures.1 in
    rw (p.1, p.2) (ends c.in_err-read_row.field-0.0 c.args.size c.loop-at.at (map (λ row. row.items) c.loop-at.rows.items) (lines c.loop-at.rest.now) c.in-Some.line.now c.in-Some.after.now (rows_in c.args.size c.args.size 2 (lines c.args.text.now)) c.loop-at-test.true c.in-Some.ensures.line c.in_err-read_row.ensures c.loop-at.invariant)

pub loop-at-preserved : goal.loop-at-preserved
loop-at-preserved c =
    let row = c.in_ok-read_row.field-0 in
    rw (c.in_ok-push.ensures.items, map_push _ c.loop-at.rows.items row)
    (goes_on c.args.size c.loop-at.at (map (λ row. row.items) c.loop-at.rows.items) (lines c.loop-at.rest.now) c.in-Some.line.now c.in-Some.after.now row.items (rows_in c.args.size c.args.size 2 (lines c.args.text.now)) c.loop-at-test.true c.in-Some.ensures.line c.in_ok-read_row.ensures c.loop-at.invariant)

pub returns-then-not-is_empty : goal.returns-then-not-is_empty
returns-then-not-is_empty c = rw c.fault_at-then-not-is_empty.ensures.fault (ends_late c.args.size c.loop-at.at (map (λ row. row.items) c.loop-at.rows.items) c.loop-at.rest.now (rows_in c.args.size c.args.size 2 (lines c.args.text.now)) (omega arith) (sym c.if-not-is_empty.ensures) c.loop-at.invariant)
