use Rattle.std.proofs.Common.{◌≡◌, ◌++◌, flat_map}
use Rattle.std.specs.List.{range_with_len}
use Rattle.bt_plan_chart.specs.Chart.{lane_parts_at}
use Rattle.bt_plan_chart.specs.Parts.{parts_text}
use Rattle.bt_plan_chart.proofs.lanes.add_each_lane.Given as goal

-- the lanes so far were added
abbrev pub invariant-loop-beam : goal.invariant-loop-beam
invariant-loop-beam l = l.out.items ≡ l.fn.out.items ++ parts_text (flat_map (lane_parts_at l.net l.scale l.plan l.direction) (range_with_len 0 l.beam))
