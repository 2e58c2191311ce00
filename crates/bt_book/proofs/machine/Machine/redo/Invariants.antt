use Rattle.std.proofs.Common.{◌≡◌}
use Rattle.bt_book.proofs.Past.{RedoesFrom}
use Rattle.bt_book.proofs.machine.Machine.redo.Given as goal

-- the edits so far were made again
abbrev pub invariant-loop-place : goal.invariant-loop-place
invariant-loop-place l = (l.occupancy.net ≡ l.self.net) × RedoesFrom l.self.net l.self.state.changes l.occupancy.links l.number l.place
