-- two changes with one line
use Rattle.bt_journal.proofs.ChangeLines.{same_change}
use Rattle.bt_journal.proofs.laws.lines_tell_changes.Goals as goal

pub returns-clause-change : goal.returns-clause-change
returns-clause-change c = λ net number other change changed sound range ranged same. (same_change net sound number other change changed range ranged same).0

pub returns-clause-edition : goal.returns-clause-edition
returns-clause-edition c = λ net number other change changed sound range ranged same. (same_change net sound number other change changed range ranged same).1
