-- the changes of the lines so far were made again
use Rattle.std.proofs.Common.{length}
use Rattle.bt_history.proofs.Replayed.{Stands}
use Rattle.bt_book.proofs.machine.Machine.take_lines.Given as goal

abbrev pub invariant-loop-line : goal.invariant-loop-line
invariant-loop-line l = Stands l.fn.self.net l.text l.rest l.self l.number l.marked

abbrev pub decreases-loop-line : goal.decreases-loop-line
decreases-loop-line l = length l.rest
