use Rattle.bt_history.specs.Recovery.{IsNoLine, IsStray}
use Rattle.bt_history.proofs.OneJournal.{are_lines, no_line_Wrongs, not_both, one_list, one_number, stray_Wrongs, told_not_wrong}
use Rattle.bt_history.proofs.journal_laws.journals_tell_one_thing.Goals as goal

-- by what is known of the lines of changes
pub returns-clause-changes : goal.returns-clause-changes
returns-clause-changes c = λ net bytes a b sound told also.
    let are = are_lines net sound c.lines_end_once.ensures.cut c.lines_tell_changes.ensures.change c.lines_tell_changes.ensures.edition c.marks_tell_sizes.ensures.short
    c.marks_tell_sizes.ensures.cut c.marks_tell_sizes.ensures.beams c.marks_tell_sizes.ensures.terminals c.marks_tell_sizes.ensures.no_change in
    one_list net are bytes a b told also

pub returns-clause-no_line : goal.returns-clause-no_line
returns-clause-no_line c = λ net bytes a b sound x y.
    let are = are_lines net sound c.lines_end_once.ensures.cut c.lines_tell_changes.ensures.change c.lines_tell_changes.ensures.edition c.marks_tell_sizes.ensures.short
    c.marks_tell_sizes.ensures.cut c.marks_tell_sizes.ensures.beams c.marks_tell_sizes.ensures.terminals c.marks_tell_sizes.ensures.no_change in
    one_number net are bytes a b (λ _ line. IsNoLine net line) (no_line_Wrongs net are) x y

pub returns-clause-stray : goal.returns-clause-stray
returns-clause-stray c = λ net bytes a b sound x y.
    let are = are_lines net sound c.lines_end_once.ensures.cut c.lines_tell_changes.ensures.change c.lines_tell_changes.ensures.edition c.marks_tell_sizes.ensures.short
    c.marks_tell_sizes.ensures.cut c.marks_tell_sizes.ensures.beams c.marks_tell_sizes.ensures.terminals c.marks_tell_sizes.ensures.no_change in
    one_number net are bytes a b (IsStray net) (stray_Wrongs net are) x y

pub returns-clause-changes_or_no_line : goal.returns-clause-changes_or_no_line
returns-clause-changes_or_no_line c = λ net bytes changes number sound told x.
    let are = are_lines net sound c.lines_end_once.ensures.cut c.lines_tell_changes.ensures.change c.lines_tell_changes.ensures.edition c.marks_tell_sizes.ensures.short
    c.marks_tell_sizes.ensures.cut c.marks_tell_sizes.ensures.beams c.marks_tell_sizes.ensures.terminals c.marks_tell_sizes.ensures.no_change in
    told_not_wrong net are bytes changes number (λ _ line. IsNoLine net line) (no_line_Wrongs net are) told x

pub returns-clause-changes_or_stray : goal.returns-clause-changes_or_stray
returns-clause-changes_or_stray c = λ net bytes changes number sound told x.
    let are = are_lines net sound c.lines_end_once.ensures.cut c.lines_tell_changes.ensures.change c.lines_tell_changes.ensures.edition c.marks_tell_sizes.ensures.short
    c.marks_tell_sizes.ensures.cut c.marks_tell_sizes.ensures.beams c.marks_tell_sizes.ensures.terminals c.marks_tell_sizes.ensures.no_change in
    told_not_wrong net are bytes changes number (IsStray net) (stray_Wrongs net are) told x

pub returns-clause-no_line_or_stray : goal.returns-clause-no_line_or_stray
returns-clause-no_line_or_stray c = λ net bytes a b sound x y.
    let are = are_lines net sound c.lines_end_once.ensures.cut c.lines_tell_changes.ensures.change c.lines_tell_changes.ensures.edition c.marks_tell_sizes.ensures.short
    c.marks_tell_sizes.ensures.cut c.marks_tell_sizes.ensures.beams c.marks_tell_sizes.ensures.terminals c.marks_tell_sizes.ensures.no_change in
    not_both net are bytes a b x y
