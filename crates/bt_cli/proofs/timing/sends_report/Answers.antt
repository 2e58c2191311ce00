-- each burst lies in the frame, and its terminal has a delay
use Rattle.std.proofs.Common.{arith}
use Rattle.bt_cli.proofs.Timed.{all_timed}
use Rattle.bt_cli.proofs.timing.sends_report.Goals as goal

pub sends_text-requires : goal.sends_text-requires
sends_text-requires c = record {
  timed = all_timed c.args.net.now c.args.demand.now c.args.plan.now c.args.timing.now c.requires.bursts c.requires.good c.requires.fits (omega (arith, c.slots-slots.ensures.same, c.slots-slots.ensures.in_range)) c.requires.delays;
}
