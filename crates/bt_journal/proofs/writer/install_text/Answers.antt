-- the plan's text with its lines in one, its last space left out
use Rattle.std.proofs.Common.{ap, ◌∙◌, map, arith}
use Rattle.bt_text.specs.Text.{spaced}
use Rattle.bt_plan.specs.PlanSpelling.{plan_lines}
use Rattle.bt_journal.specs.LineReading.{space_for_newline}
use Rattle.bt_journal.proofs.PlanWords.{space-plan, without_last}
use Rattle.bt_journal.proofs.writer.install_text.Goals as goal

pub returns : goal.returns
returns c =
    let net = c.args.net.now in
    let plan = c.args.plan.now in
    let text = c.join_lines.new.text in
    let joined = c.join_lines.ensures ∙ (ap (map space_for_newline) c.in_ok-text.ensures.spelled ∙ space-plan net c.beam_count-beams.ensures.sound plan c.requires.range) in
    without_last text.items c.pop-last.new.self.items (spaced (plan_lines net plan)) 32 text.len joined c.pop-last.ensures.rest (omega arith)
