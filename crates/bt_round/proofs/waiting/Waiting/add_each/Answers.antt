use Rattle.std.proofs.Common.{arith}
use Rattle.bt_world.specs.Life.{past_of}
use Rattle.bt_site.specs.World.{sent}
use Rattle.bt_round.specs.Worker.{numbered}
use Rattle.bt_round.proofs.FromNumber.{deliveries-more}
use Rattle.bt_round.proofs.waiting.Waiting.add_each.Goals as goal

pub loop-number-preserved : goal.loop-number-preserved
loop-number-preserved g c =
    deliveries-more (numbered c.args.terminals) c.args.first c.loop-number.number (sent c.args.world.now.opening (past_of c.args.world.now)) c.sent.result.now
    c.args.self.now c.loop-number.self c.add.new.self c.loop-number.auto.number (omega (arith, c.loop-number-test.true, c.sent_count-number-end.ensures.count)) c.sent.ensures.sent c.loop-number.invariant c.in_ok-add.ensures.ok
