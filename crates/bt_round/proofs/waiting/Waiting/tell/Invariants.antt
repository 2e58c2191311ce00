use Rattle.std.proofs.Common.{◌≡◌, ◌++◌, take}
use Rattle.bt_timeline.specs.Air.{waiting_lines}
use Rattle.bt_round.proofs.waiting.Waiting.tell.Given as goal

-- the lines of the deliveries so far
abbrev pub invariant-loop-at : goal.invariant-loop-at
invariant-loop-at l = l.text.items ≡ l.fn.text.items ++ waiting_lines l.net (take l.at l.self)
