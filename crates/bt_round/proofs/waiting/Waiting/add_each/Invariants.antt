use Rattle.std.proofs.Common.{◌≡◌, ◌-◌, ◌++◌, take, drop}
use Rattle.bt_world.specs.Life.{past_of}
use Rattle.bt_site.specs.World.{sent}
use Rattle.bt_round.specs.Waiting.{deliveries}
use Rattle.bt_round.specs.Worker.{numbered}
use Rattle.bt_round.proofs.waiting.Waiting.add_each.Given as goal

-- the messages so far are to be heard
abbrev pub invariant-loop-number : goal.invariant-loop-number
invariant-loop-number g l = l.self ≡ l.fn.self ++ deliveries (numbered l.terminals) l.first (take (l.number - l.first) (drop l.first (sent l.world.opening (past_of l.world))))
