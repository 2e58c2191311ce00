use Rattle.bt_plan_chart.specs.Chart.{overrun_parts_of}
use Rattle.bt_plan_chart.proofs.Adding.{none_yet, one_more, all_of}
use Rattle.bt_plan_chart.proofs.bursts.add_overruns.Goals as goal

pub loop-burst-init : goal.loop-burst-init
loop-burst-init c = none_yet c.args.out.now.items

pub loop-burst-preserved : goal.loop-burst-preserved
loop-burst-preserved c = one_more (overrun_parts_of c.args.net.now c.args.scale) c.args.bursts.now c.loop-burst.burst-index _ _ _ _ c.loop-burst-test.true c.loop-burst.invariant c.in_ok-add_overrun_of.ensures

pub returns : goal.returns
returns c = all_of (overrun_parts_of c.args.net.now c.args.scale) c.args.bursts.now c.loop-burst.burst-index _ _ c.loop-burst-test.false c.loop-burst.invariant
