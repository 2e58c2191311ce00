use Rattle.std.proofs.Common.{◌≡◌, length}
use Rattle.bt_trials.proofs.disk.three_edits.Given as goal

-- the network has two terminals
abbrev pub invariant-loop-number : goal.invariant-loop-number
invariant-loop-number l = length l.book.net.terminals ≡ 2
