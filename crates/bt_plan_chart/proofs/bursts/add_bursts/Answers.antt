use Rattle.bt_plan_chart.specs.Chart.{burst_parts_of}
use Rattle.bt_plan_chart.proofs.Adding.{none_yet, one_more, all_of}
use Rattle.bt_plan_chart.proofs.bursts.add_bursts.Goals as goal

pub loop-burst-init : goal.loop-burst-init
loop-burst-init c = none_yet c.args.out.now.items

pub loop-burst-preserved : goal.loop-burst-preserved
loop-burst-preserved c = one_more (burst_parts_of c.args.net.now c.args.scale) c.args.bursts.now c.loop-burst.burst-index _ _ _ _ c.loop-burst-test.true c.loop-burst.invariant c.in_ok-add_burst_of.ensures

pub returns : goal.returns
returns c = all_of (burst_parts_of c.args.net.now c.args.scale) c.args.bursts.now c.loop-burst.burst-index _ _ c.loop-burst-test.false c.loop-burst.invariant
