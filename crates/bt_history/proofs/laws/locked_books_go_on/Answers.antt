use Rattle.bt_history.proofs.Lasting.{line_last}
use Rattle.bt_history.proofs.TurnLock.{follows_at_end, from_line, tells_at_end}
use Rattle.bt_history.proofs.laws.locked_books_go_on.Goals as goal

pub returns-clause-state : goal.returns-clause-state
returns-clause-state c = from_line

pub returns-clause-follow : goal.returns-clause-follow
returns-clause-follow c = follows_at_end

pub returns-clause-tells : goal.returns-clause-tells
returns-clause-tells c = tells_at_end

pub returns-clause-last : goal.returns-clause-last
returns-clause-last c = line_last
