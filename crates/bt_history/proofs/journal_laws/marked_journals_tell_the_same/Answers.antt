use Rattle.bt_history.proofs.Marked.{keeps_marked, marked_again, marked_tells, part_tells}
use Rattle.bt_history.proofs.OneJournal.{are_lines}
use Rattle.bt_history.proofs.journal_laws.marked_journals_tell_the_same.Goals as goal

-- by what is known of the lines of changes and of marks
pub returns-clause-part : goal.returns-clause-part
returns-clause-part c = λ net bytes changes kept sound tells.
    let are = are_lines net sound c.lines_end_once.ensures.cut c.lines_tell_changes.ensures.change c.lines_tell_changes.ensures.edition c.marks_tell_sizes.ensures.short
    c.marks_tell_sizes.ensures.cut c.marks_tell_sizes.ensures.beams c.marks_tell_sizes.ensures.terminals c.marks_tell_sizes.ensures.no_change in
    part_tells net are bytes changes kept tells

pub returns-clause-marked : goal.returns-clause-marked
returns-clause-marked c = λ net bytes changes sound tells.
    let are = are_lines net sound c.lines_end_once.ensures.cut c.lines_tell_changes.ensures.change c.lines_tell_changes.ensures.edition c.marks_tell_sizes.ensures.short
    c.marks_tell_sizes.ensures.cut c.marks_tell_sizes.ensures.beams c.marks_tell_sizes.ensures.terminals c.marks_tell_sizes.ensures.no_change in
    marked_tells net are bytes changes tells

pub returns-clause-keeps : goal.returns-clause-keeps
returns-clause-keeps c = λ net bytes changes sound tells.
    let are = are_lines net sound c.lines_end_once.ensures.cut c.lines_tell_changes.ensures.change c.lines_tell_changes.ensures.edition c.marks_tell_sizes.ensures.short
    c.marks_tell_sizes.ensures.cut c.marks_tell_sizes.ensures.beams c.marks_tell_sizes.ensures.terminals c.marks_tell_sizes.ensures.no_change in
    keeps_marked net are bytes changes tells

pub returns-clause-again : goal.returns-clause-again
returns-clause-again c = λ net bytes changes sound tells.
    let are = are_lines net sound c.lines_end_once.ensures.cut c.lines_tell_changes.ensures.change c.lines_tell_changes.ensures.edition c.marks_tell_sizes.ensures.short
    c.marks_tell_sizes.ensures.cut c.marks_tell_sizes.ensures.beams c.marks_tell_sizes.ensures.terminals c.marks_tell_sizes.ensures.no_change in
    marked_again net are bytes changes tells
