use Rattle.std.proofs.Common.{arith}
use Rattle.bt_world.specs.Life.{past_of}
use Rattle.bt_site.specs.World.{sent}
use Rattle.bt_round.proofs.FromNumber.{lines-more, names-there}
use Rattle.bt_round.proofs.simulated.sent_lines.Goals as goal

pub loop-number-preserved : goal.loop-number-preserved
loop-number-preserved g c =
    lines-more c.args.net.now c.args.first c.loop-number.number (sent c.args.world.now.opening (past_of c.args.world.now)) c.sent.result.now
    c.args.text.now.items c.loop-number.text.items c.sent_text.new.out.items c.loop-number.auto.number (omega (arith, c.loop-number-test.true, c.sent_count-number-end.ensures.count)) c.sent.ensures.sent c.loop-number.invariant c.in_ok-sent_text.ensures.added

pub sent_text-requires : goal.sent_text-requires
sent_text-requires g c = record {
  terminal = names-there c.args.net.now c.loop-number.number (sent c.args.world.now.opening (past_of c.args.world.now)) c.sent.result.now
      c.requires.terminals (omega (arith, c.loop-number-test.true, c.sent_count-number-end.ensures.count)) c.sent.ensures.sent;
}
