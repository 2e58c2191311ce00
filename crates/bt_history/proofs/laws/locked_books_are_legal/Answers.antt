use Rattle.bt_history.proofs.TurnLock.{Legal-line, state_of_line, net_of_line, rose_of_line}
use Rattle.bt_history.proofs.laws.locked_books_are_legal.Goals as goal

pub returns-clause-legal : goal.returns-clause-legal
returns-clause-legal c = Legal-line

pub returns-clause-state : goal.returns-clause-state
returns-clause-state c = state_of_line

pub returns-clause-net : goal.returns-clause-net
returns-clause-net c = net_of_line

pub returns-clause-rose : goal.returns-clause-rose
returns-clause-rose c = rose_of_line
