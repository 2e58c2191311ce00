use Rattle.std.proofs.Common.{arith}
use Rattle.bt_demand.specs.declared.burst.Burst.{Burst}
use Rattle.bt_demand.proofs.LatestEnds.{no_burst}
use Rattle.bt_demand.proofs.SentTable.{none_added, one_added}
use Rattle.bt_demand.proofs.serving.slots_by_link.Goals as goal

pub loop-burst-init : goal.loop-burst-init
loop-burst-init c = none_added (λ (b : Burst). b.from.0) (λ (b : Burst). b.to.0) (λ (b : Burst). b.length) c.args.bursts.now

pub loop-burst-preserved : goal.loop-burst-preserved
loop-burst-preserved c =
    let ends = c.requires.between c.loop-burst.burst-index no_burst c.loop-burst-test.true in
    one_added (λ (b : Burst). b.from.0) (λ (b : Burst). b.to.0) (λ (b : Burst). b.length) c.args.bursts.now c.loop-burst.burst-index no_burst
    c.loop-burst.slots c.from.result c.loop-burst-test.true c.loop-burst.invariant ends.0 ends.1 c.from.ensures (omega arith)
