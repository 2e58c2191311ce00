use Rattle.std.proofs.Common.{◌≡◌, ◌-◌, ◌++◌, take, drop}
use Rattle.bt_world.specs.Life.{past_of}
use Rattle.bt_site.specs.World.{sent}
use Rattle.bt_round.specs.Simulated.{sent_lines}
use Rattle.bt_round.proofs.simulated.sent_lines.Given as goal

-- the messages so far have their lines
abbrev pub invariant-loop-number : goal.invariant-loop-number
invariant-loop-number g l = l.text.items ≡ l.fn.text.items ++ sent_lines l.net l.first (take (l.number - l.first) (drop l.first (sent l.world.opening (past_of l.world))))
