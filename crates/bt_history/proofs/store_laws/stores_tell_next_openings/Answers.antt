use Rattle.bt_history.proofs.Lasting.{recovery_last}
use Rattle.bt_history.proofs.OneJournal.{are_lines}
use Rattle.bt_history.proofs.NextOpening.{next_opening}
use Rattle.bt_history.proofs.store_laws.stores_tell_next_openings.Goals as goal

-- by what is known of the lines of changes
pub returns-clause-next : goal.returns-clause-next
returns-clause-next c = λ net told changes lost sound follow stored.
    let are = are_lines net sound c.lines_end_once.ensures.cut c.lines_tell_changes.ensures.change c.lines_tell_changes.ensures.edition c.marks_tell_sizes.ensures.short
    c.marks_tell_sizes.ensures.cut c.marks_tell_sizes.ensures.beams c.marks_tell_sizes.ensures.terminals c.marks_tell_sizes.ensures.no_change in
    next_opening net are told changes lost follow stored

pub returns-clause-short : goal.returns-clause-short
returns-clause-short c = λ net told changes lost stored. stored.readable

pub returns-clause-last : goal.returns-clause-last
returns-clause-last c = λ net told was will changes lost sound follow stored only time since.
    let are = are_lines net sound c.lines_end_once.ensures.cut c.lines_tell_changes.ensures.change c.lines_tell_changes.ensures.edition c.marks_tell_sizes.ensures.short
    c.marks_tell_sizes.ensures.cut c.marks_tell_sizes.ensures.beams c.marks_tell_sizes.ensures.terminals c.marks_tell_sizes.ensures.no_change in
    recovery_last net are told was will changes lost follow stored only time since
