use Rattle.bt_look.proofs.Adds.{edition_of_adds}
use Rattle.bt_look.proofs.Fewest.{fewest_edits}
use Rattle.bt_look.proofs.laws.no_journal_has_fewer_edits.Goals as goal

pub returns : goal.returns
returns c = record { edits = edition_of_adds; fewest = fewest_edits }
