use Rattle.std.proofs.Common.{◌≡◌, ◌++◌, flat_map, ap, ◌∙◌, arith}
use Rattle.std.specs.List.{range_with_len}
use Rattle.bt_plan_chart.specs.Chart.{lane_parts_at}
use Rattle.bt_plan_chart.specs.Parts.{parts_text}
use Rattle.bt_plan_chart.proofs.Adding.{next_parts, none_yet}
use Rattle.bt_plan_chart.proofs.lanes.add_each_lane.Goals as goal

pub loop-beam-init : goal.loop-beam-init
loop-beam-init c = none_yet c.args.out.now.items

pub loop-beam-preserved : goal.loop-beam-preserved
loop-beam-preserved c = next_parts (lane_parts_at c.args.net.now c.args.scale c.args.plan.now c.args.direction) c.loop-beam.beam _ _ _ c.loop-beam.invariant c.in_ok-add_lane_if_any.ensures

pub returns : goal.returns
returns c =
    let same : c.loop-beam.beam ≡ c.args.scale.beams = omega arith in
    c.loop-beam.invariant ∙ ap (λ n. c.args.out.now.items ++ parts_text (flat_map (lane_parts_at c.args.net.now c.args.scale c.args.plan.now c.args.direction) (range_with_len 0 n))) same
