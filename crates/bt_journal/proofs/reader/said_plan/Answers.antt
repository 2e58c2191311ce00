-- the plan's text is as long as the line
use Rattle.std.proofs.Common.{length, ap, arith}
use Rattle.bt_journal.proofs.Spaces.{length-text_in_lines}
use Rattle.bt_journal.proofs.reader.said_plan.Goals as goal

pub read_plan-requires : goal.read_plan-requires
read_plan-requires c = record {
  short = omega (arith, ap length c.as_slice.ensures.value, ap length c.in_ok-plan.ensures.lines, length-text_in_lines c.beam_count.result c.args.text.now, c.requires.short);
}
