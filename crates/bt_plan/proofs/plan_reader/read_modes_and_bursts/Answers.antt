-- one mode more
use Rattle.std.proofs.Common.{sym, ◌∙◌, arith}
use Rattle.std.proofs.lemmas.List.{length-append}
use Rattle.bt_text.specs.Text.{lines}
use Rattle.bt_plan.specs.PlanText.{modes_and_bursts}
use Rattle.bt_plan.proofs.PlanLines.{mode_goes_on}
use Rattle.bt_plan.proofs.plan_reader.read_modes_and_bursts.Goals as goal

pub loop-line-preserved : goal.loop-line-preserved
loop-line-preserved c = record {
  reading = rw c.in_ok-push.ensures.items (mode_goes_on c.args.net.now c.loop-line.at c.loop-line.modes.items (lines c.loop-line.rest.now) c.in-Some.line.now c.in-Some.after.now c.in_ok-read_plan_mode.field-0 (modes_and_bursts c.args.net.now 4 (lines c.args.text.now)) c.in-Some.ensures.line (sym c.is_mode.ensures ∙ c.if-not-is_mode.false) c.in_ok-read_plan_mode.ensures c.loop-line.invariant.reading);
  count = rw (c.in_ok-push.ensures.items, length-append) (omega (arith, c.loop-line.invariant.count));
  lines_left = omega (arith, c.in-Some.ensures.shorter, c.loop-line.invariant.lines_left);
}
