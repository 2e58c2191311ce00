use Rattle.std.proofs.Common.{[], ◌∷◌}
use Rattle.bt_plan_chart.specs.Chart.{each_lane_parts, lanes_head}
use Rattle.bt_plan_chart.proofs.Adding.{and_then}
use Rattle.bt_plan_chart.proofs.lanes.add_lanes.Goals as goal

pub returns : goal.returns
returns c = and_then c.add_each_lane.result (lanes_head c.args.scale c.args.direction ∷ []) (each_lane_parts c.args.net.now c.args.scale c.args.plan.now c.args.direction) c.args.out.now.items c.add_lanes_head.new.out.items c.add_each_lane.new.out.items
    c.in_ok-add_lanes_head.ensures c.add_each_lane.ensures
