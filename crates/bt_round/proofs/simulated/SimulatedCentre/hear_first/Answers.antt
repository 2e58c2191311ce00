use Rattle.std.proofs.Common.{refl, ap, ◌∙◌, arith}
use Rattle.bt_site.specs.Event.{Opening}
use Rattle.bt_round.proofs.Flowing.{come-more, come-none, some-left}
use Rattle.bt_round.proofs.simulated.SimulatedCentre.hear_first.Goals as goal

pub loop-come-init : goal.loop-come-init
loop-come-init g c = record {
  opening = refl;
  came = come-none c.args.net.now c.args.self.now c.args.text.now.items;
}

pub hear_next-requires-clause-network : goal.hear_next-requires-clause-network
hear_next-requires-clause-network g c = ap (λ (o : Opening). o.net) c.loop-come.invariant.opening ∙ c.requires.network

pub hear_next-requires-clause-waits : goal.hear_next-requires-clause-waits
hear_next-requires-clause-waits g c =
    some-left c.args.net.now c.loop-come._come c.args.count c.args.self.now c.loop-come.self c.args.text.now.items c.loop-come.text.items
    c.loop-come-test.true c.requires.wait c.loop-come.invariant.came

pub loop-come-preserved : goal.loop-come-preserved
loop-come-preserved g c = record {
  opening = c.hear_next.ensures.opening ∙ c.loop-come.invariant.opening;
  came = come-more c.args.net.now c.loop-come._come c.args.self.now c.loop-come.self c.hear_next.new.self c.args.text.now.items c.loop-come.text.items c.hear_next.new.text.items
      (omega (arith, c.loop-come-test.true, c.requires.wait)) c.loop-come.invariant.came c.in_ok-hear_next.ensures.came;
}
