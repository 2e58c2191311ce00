use Rattle.std.proofs.Common.{List, ℕ, ap, ◌∙◌}
use Rattle.bt_text.specs.Text.{lines}
use Rattle.bt_history.proofs.OneJournal.{are_lines}
use Rattle.bt_look.specs.Measure.{unmarked}
use Rattle.bt_look.proofs.Told.{measured}
use Rattle.bt_look.proofs.measure.size_of_journal.Goals as goal

-- by what is known of the lines of changes and of marks
pub returns-clause-bytes : goal.returns-clause-bytes
returns-clause-bytes c = λ changes told.
    let net = c.args.net.now in
    let text = c.args.text.now in
    let are = are_lines net c.beam_count-beams.ensures.sound c.lines_end_once.ensures.cut c.lines_tell_changes.ensures.change c.lines_tell_changes.ensures.edition c.marks_tell_sizes.ensures.short
    c.marks_tell_sizes.ensures.cut c.marks_tell_sizes.ensures.beams c.marks_tell_sizes.ensures.terminals c.marks_tell_sizes.ensures.no_change in
    c.measure_lines-bytes.ensures.bytes
    ∙ (ap (λ (mark : List ℕ). unmarked mark (lines text)) (c.as_slice.ensures.value ∙ c.in_ok-mark.ensures)
    ∙ measured net are text c.measure_lines-bytes.result.1.now changes c.measure_lines-bytes.ensures.rest told)
