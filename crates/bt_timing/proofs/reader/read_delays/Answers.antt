-- one line more, and a line with a fault
use Rattle.std.proofs.Common.{ℕ, List, Option, None, refl, sym, ap, subst, ◌∙◌, arith}
use Rattle.std.proofs.lemmas.List.{length-replicate}
use Rattle.std.proofs.lemmas.Result.{err_from_is_err_and}
use Rattle.bt_text.specs.Text.{lines}
use Rattle.bt_text.specs.Reading.{IsFaultOf}
use Rattle.bt_timing.specs.DelayText.{line_with, delays_in, nothing_known}
use Rattle.bt_timing.proofs.DelayLines.{goes_on, ends}
use Rattle.bt_timing.proofs.reader.read_delays.Goals as goal

pub loop-line-init : goal.loop-line-init
loop-line-init c =
    let none : Option ℕ = None in
    record {
      reading = rw c.in_ok-table.ensures refl;
      terminals = rw c.in_ok-table.ensures (length-replicate _ none);
      lines_left = omega arith;
    }

pub returns-in_err-add_line-clause-reading : goal.returns-in_err-add_line-clause-reading
returns-in_err-add_line-clause-reading c =
    let p = err_from_is_err_and c.from_residual-in_err-add_line.result c.from_residual-in_err-add_line.ensures.1 in
    let fault = subst (λ (ws : List (List ℕ)). IsFaultOf (line_with c.args.net.now c.loop-line.at c.loop-line.table ws) c.in_err-add_line.field-0.0) c.of.ensures.words c.in_err-add_line.ensures.reading in
    rw (p.1, p.2) (ends c.in_err-add_line.field-0.0 c.args.net.now c.loop-line.at c.loop-line.table (lines c.loop-line.rest.now) c.in-Some.line.now c.in-Some.after.now (delays_in c.args.net.now 3 (nothing_known c.args.net.now) (lines c.args.text.now)) c.in-Some.ensures.line fault c.loop-line.invariant.reading)

pub loop-line-preserved : goal.loop-line-preserved
loop-line-preserved c = record {
  reading = goes_on c.args.net.now c.loop-line.at c.loop-line.table c.add_line.new.table (lines c.loop-line.rest.now) c.in-Some.line.now c.in-Some.after.now (delays_in c.args.net.now 3 (nothing_known c.args.net.now) (lines c.args.text.now)) c.in-Some.ensures.line (sym (ap (line_with c.args.net.now c.loop-line.at c.loop-line.table) c.of.ensures.words) ∙ c.in_ok-add_line.ensures.reading) c.loop-line.invariant.reading;
  terminals = c.in_ok-add_line.ensures.count ∙ c.loop-line.invariant.terminals;
  lines_left = omega (arith, c.in-Some.ensures.shorter, c.loop-line.invariant.lines_left);
}
