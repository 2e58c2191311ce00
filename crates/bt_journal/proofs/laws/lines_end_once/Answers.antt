-- where the line of a change ends
use Rattle.bt_journal.proofs.ChangeLines.{once, cut}
use Rattle.bt_journal.proofs.laws.lines_end_once.Goals as goal

pub returns-clause-once : goal.returns-clause-once
returns-clause-once c = λ net number change sound range. once net sound number change range

pub returns-clause-cut : goal.returns-clause-cut
returns-clause-cut c = λ net number change rest sound range. cut net sound number change rest range
