-- the size, and the rows that follow it
use Rattle.std.proofs.lemmas.Result.{err_from_is_err_and}
use Rattle.bt_text.specs.Text.{words, lines, numbers_of}
use Rattle.bt_plan.specs.MatrixText.{size_in, rows_in}
use Rattle.bt_text.proofs.Faults.{IsFaultOf-then}
use Rattle.bt_plan.proofs.Rows.{matrix_from_line}
use Rattle.bt_plan.proofs.matrix_reader.read_all_rows.Goals as goal

pub returns-in_err-size : goal.returns-in_err-size
returns-in_err-size c =
    let p = err_from_is_err_and c.from_residual.result c.from_residual.ensures.1 in
    let rest = c.in-Some.rest.now in
    rw (p.1, p.2, matrix_from_line c.args.text.now c.in-Some.line.now rest c.in-Some.ensures.line)
    (IsFaultOf-then c.in_err-size.field-0.0 (size_in (numbers_of (words c.in-Some.line.now))) (λ size. rows_in size size 2 (lines rest)) c.in_err-size.ensures)

pub returns : goal.returns
returns c = rw (matrix_from_line c.args.text.now c.in-Some.line.now c.in-Some.rest.now c.in-Some.ensures.line, c.in_ok-size.ensures) c.read_rows.ensures
