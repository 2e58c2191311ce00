-- one mode more, and the end
use Rattle.std.proofs.Common.{sym, arith}
use Rattle.std.proofs.lemmas.List.{length-append}
use Rattle.bt_text.specs.Text.{lines}
use Rattle.bt_plan.specs.ScheduleText.{modes_in}
use Rattle.bt_plan.proofs.ModeLines.{goes_on, ends_there}
use Rattle.bt_plan.proofs.schedule_reader.read_modes.Goals as goal

pub returns-then-is_word : goal.returns-then-is_word
returns-then-is_word c = rw (ends_there c.args.size c.loop-line.at c.loop-line.modes.items (lines c.loop-line.rest.now) c.in-Some.line.now c.in-Some.after.now (modes_in c.args.size 3 (lines c.args.text.now)) c.in-Some.ensures.line (sym c.if-is_word.ensures.is) c.loop-line.invariant.reading) c.read_end.ensures

pub loop-line-preserved : goal.loop-line-preserved
loop-line-preserved c =
    let mode = c.in_ok-read_mode.field-0 in
    record {
      reading = rw c.in_ok-push.ensures.items (goes_on c.args.size c.loop-line.at c.loop-line.modes.items (lines c.loop-line.rest.now) c.in-Some.line.now c.in-Some.after.now mode (modes_in c.args.size 3 (lines c.args.text.now)) c.in-Some.ensures.line (sym c.if-is_word.ensures.is) c.in_ok-read_mode.ensures c.loop-line.invariant.reading);
      count = rw (c.in_ok-push.ensures.items, length-append) (omega arith);
      lines_left = omega (arith, c.in-Some.ensures.shorter);
    }
