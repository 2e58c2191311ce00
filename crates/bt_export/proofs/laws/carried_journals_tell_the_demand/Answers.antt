-- by what is known of the lines of changes and of marks
use Rattle.bt_net.specs.Network.{Net, IsSound}
use Rattle.bt_history.proofs.OneJournal.{AreLines, are_lines}
use Rattle.bt_export.proofs.CarriedBack.{carried_recovered, carried_told, one_coming}
use Rattle.bt_export.proofs.laws.carried_journals_tell_the_demand.Goals as goal

pub returns : goal.returns
returns c =
    let are : (net : Net) → IsSound net → AreLines net = λ net sound.
    are_lines net sound c.lines_end_once.ensures.cut c.lines_tell_changes.ensures.change c.lines_tell_changes.ensures.edition c.marks_tell_sizes.ensures.short c.marks_tell_sizes.ensures.cut
    c.marks_tell_sizes.ensures.beams c.marks_tell_sizes.ensures.terminals c.marks_tell_sizes.ensures.no_change in
    record {
      recovered = λ net links new carried sound. carried_recovered net links new carried (are new sound) sound;
      demand = λ net links new carried changes after sound. carried_told net links new carried changes after (are new sound) sound;
      one = one_coming;
    }
