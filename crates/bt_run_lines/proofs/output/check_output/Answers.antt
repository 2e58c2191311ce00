-- one line more, and a line with a fault
use Rattle.std.proofs.Common.{arith}
use Rattle.std.proofs.lemmas.Result.{err_from_is_err_and}
use Rattle.bt_text.specs.Text.{lines}
use Rattle.bt_run_lines.specs.Lines.{gone_over, output_of}
use Rattle.bt_run_lines.proofs.Outputs.{goes_on, ends}
use Rattle.bt_run_lines.proofs.output.check_output.Goals as goal

pub returns-in_err-told : goal.returns-in_err-told
returns-in_err-told c =
    let p = err_from_is_err_and c.from_residual.result c.from_residual.ensures.1 in
    rw (p.1, p.2) record {
      reading = ends c.args.net.now c.loop-line.at c.loop-line.told (lines c.loop-line.rest.now) c.in-Some.line.now c.in-Some.after.now (gone_over (output_of c.args.net.now c.args.text.now)) c.in-Some.ensures.line c.loop-line.invariant.so_far c.in_err-told.field-0.0 c.in_err-told.ensures;
    }

pub loop-line-preserved : goal.loop-line-preserved
loop-line-preserved c = record {
  so_far = goes_on c.args.net.now c.loop-line.at c.loop-line.told (lines c.loop-line.rest.now) c.in-Some.line.now c.in-Some.after.now (gone_over (output_of c.args.net.now c.args.text.now)) c.in-Some.ensures.line c.loop-line.invariant.so_far c.in_ok-told.told c.in_ok-told.ensures;
  few = omega (arith, c.in-Some.ensures.shorter);
}
