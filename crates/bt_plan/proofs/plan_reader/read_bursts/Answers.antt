-- one burst more, a line with a fault, and the end
use Rattle.std.proofs.Common.{None, sym, arith}
use Rattle.std.proofs.lemmas.List.{length-append}
use Rattle.std.proofs.lemmas.Result.{err_from_is_err_and}
use Rattle.bt_text.specs.Text.{words, lines}
use Rattle.bt_plan.specs.PlanText.{bursts_in}
use Rattle.bt_plan.proofs.PlanLines.{goes_on, ends, ends_there, in_order_more}
use Rattle.bt_plan.proofs.plan_reader.read_bursts.Goals as goal

pub returns-then-is_word : goal.returns-then-is_word
returns-then-is_word c = rw (ends_there c.args.net.now c.loop-line.at c.loop-line.above c.loop-line.bursts.items (lines c.loop-line.rest.now) c.in-Some.line.now c.in-Some.after.now (bursts_in c.args.net.now c.args.first None (lines c.args.text.now)) c.in-Some.ensures.line (sym c.if-is_word.ensures.is) c.loop-line.invariant.reading) c.read_end.ensures

pub returns-in_err-burst : goal.returns-in_err-burst
returns-in_err-burst c =
    let p = err_from_is_err_and c.from_residual.result c.from_residual.ensures.1 in
    rw (p.1, p.2) (ends c.in_err-burst.field-0.0 c.args.net.now c.loop-line.at c.loop-line.above c.loop-line.bursts.items (lines c.loop-line.rest.now) c.in-Some.line.now c.in-Some.after.now (bursts_in c.args.net.now c.args.first None (lines c.args.text.now)) c.in-Some.ensures.line (sym c.if-is_word.ensures.is) c.in_err-burst.ensures c.loop-line.invariant.reading)

pub loop-line-preserved : goal.loop-line-preserved
loop-line-preserved c = record {
  reading = rw c.in_ok-push.ensures.items (goes_on c.args.net.now c.loop-line.at c.loop-line.above c.loop-line.bursts.items (lines c.loop-line.rest.now) c.in-Some.line.now c.in-Some.after.now c.in_ok-burst.burst (bursts_in c.args.net.now c.args.first None (lines c.args.text.now)) c.in-Some.ensures.line (sym c.if-is_word.ensures.is) c.in_ok-burst.ensures c.loop-line.invariant.reading);
  order = rw c.in_ok-push.ensures.items (in_order_more c.args.net.now c.loop-line.at c.loop-line.above (words c.in-Some.line.now) c.in_ok-burst.burst c.loop-line.bursts.items c.in_ok-burst.ensures c.loop-line.invariant.order);
  count = rw (c.in_ok-push.ensures.items, length-append) (omega (arith, c.loop-line.invariant.count));
  lines_left = omega (arith, c.in-Some.ensures.shorter, c.loop-line.invariant.lines_left);
}
