use Rattle.bt_demand.specs.declared.burst.Burst.{Burst}
use Rattle.bt_demand.specs.PlanVerdict.{Collide}
use Rattle.bt_demand.proofs.LatestEnds.{no_burst}
use Rattle.bt_frame.proofs.Walk.{All-whole}
use Rattle.std.proofs.Common.{◌≡◌, true}
use Rattle.std.proofs.lemmas.List.Elements.{All-more}
use Rattle.bt_demand.proofs.meetings.first_met.Goals as goal

pub loop-place-preserved : goal.loop-place-preserved
loop-place-preserved c =
    All-more (λ (a : Burst). ¬ (Collide c.args.net.now a c.args.burst)) c.args.bursts.now c.loop-place.place no_burst c.loop-place-test.true c.loop-place.invariant
    (λ meet. let met : c.collide.result ≡ true = c.collide.ensures.1 meet in absurd cc)

pub returns : goal.returns
returns c = All-whole (λ (a : Burst). ¬ (Collide c.args.net.now a c.args.burst)) c.args.bursts.now c.loop-place.place c.loop-place-test.false c.loop-place.invariant
