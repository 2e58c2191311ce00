-- one line more, and a line with a fault
use Rattle.std.proofs.Common.{false, arith}
use Rattle.std.proofs.lemmas.Result.{err_from_is_err_and}
use Rattle.bt_text.specs.Text.{lines}
use Rattle.bt_script.specs.ScriptText.{lines_in}
use Rattle.bt_script.proofs.ScriptLines.{line_added, ends}
use Rattle.bt_script.proofs.reader.read_lines.Goals as goal

pub returns-in_err-is_open-clause-reading : goal.returns-in_err-is_open-clause-reading
returns-in_err-is_open-clause-reading c =
    let p = err_from_is_err_and c.from_residual-in_err-is_open.result c.from_residual-in_err-is_open.ensures.1 in
    rw (p.1, p.2) (ends c.in_err-is_open.field-0.0 c.args.net.now c.loop-line.at c.loop-line.is_open c.loop-line.said.items (lines c.loop-line.rest.now) c.in-Some.line.now c.in-Some.after.now (lines_in c.args.net.now 1 false (lines c.args.text.now)) c.in-Some.ensures.line c.in_err-is_open.ensures.reading c.loop-line.invariant.reading)

pub loop-line-preserved : goal.loop-line-preserved
loop-line-preserved c = record {
  reading = line_added c.args.net.now c.loop-line.at c.loop-line.is_open c.in_ok-is_open.is_open c.loop-line.said.items c.add_line.new.said.items (lines c.loop-line.rest.now) c.in-Some.line.now c.in-Some.after.now (lines_in c.args.net.now 1 false (lines c.args.text.now)) c.in-Some.ensures.line c.in_ok-is_open.ensures.reading c.loop-line.invariant.reading;
  few = omega (arith, c.in_ok-is_open.ensures.limit);
  count = omega (arith, c.in_ok-is_open.ensures.count);
}
