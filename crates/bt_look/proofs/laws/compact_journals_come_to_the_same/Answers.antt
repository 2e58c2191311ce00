use Rattle.bt_history.proofs.Demands.{demand_fits, demand_of_network}
use Rattle.bt_history.proofs.OneJournal.{are_lines}
use Rattle.bt_look.proofs.Adds.{adds_recovered, demand_of_adds}
use Rattle.bt_look.proofs.laws.compact_journals_come_to_the_same.Goals as goal

-- by what is known of the lines of changes and of marks
pub returns-clause-recovered : goal.returns-clause-recovered
returns-clause-recovered c = λ net changes links sound follow is.
    let are = are_lines net sound c.lines_end_once.ensures.cut c.lines_tell_changes.ensures.change c.lines_tell_changes.ensures.edition c.marks_tell_sizes.ensures.short
    c.marks_tell_sizes.ensures.cut c.marks_tell_sizes.ensures.beams c.marks_tell_sizes.ensures.terminals c.marks_tell_sizes.ensures.no_change in
    adds_recovered net are links sound is.demand (demand_of_network net changes links sound follow is) (demand_fits net changes links sound follow is)

pub returns-clause-demand : goal.returns-clause-demand
returns-clause-demand c = λ changes links is. demand_of_adds links is.demand
