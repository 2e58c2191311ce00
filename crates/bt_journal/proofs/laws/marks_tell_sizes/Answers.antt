-- how long a mark is, where it ends, and two marks with one line
use Rattle.bt_journal.proofs.Marks.{short, once, cut, same_sizes}
use Rattle.bt_journal.proofs.laws.marks_tell_sizes.Goals as goal

pub returns-clause-short : goal.returns-clause-short
returns-clause-short c = λ beams terminals range. short beams terminals range

pub returns-clause-once : goal.returns-clause-once
returns-clause-once c = λ beams terminals range. once beams terminals range

pub returns-clause-cut : goal.returns-clause-cut
returns-clause-cut c = λ beams terminals rest range. cut beams terminals rest range

pub returns-clause-beams : goal.returns-clause-beams
returns-clause-beams c = λ beams terminals other another range ranged same. (same_sizes beams terminals other another range ranged same).0

pub returns-clause-terminals : goal.returns-clause-terminals
returns-clause-terminals c = λ beams terminals other another range ranged same. (same_sizes beams terminals other another range ranged same).1
