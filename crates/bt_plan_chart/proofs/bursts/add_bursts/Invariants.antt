use Rattle.std.proofs.Common.{◌≡◌, ◌++◌, flat_map, take}
use Rattle.bt_plan_chart.specs.Chart.{burst_parts_of}
use Rattle.bt_plan_chart.specs.Parts.{parts_text}
use Rattle.bt_plan_chart.proofs.bursts.add_bursts.Given as goal

-- the bursts so far were added
abbrev pub invariant-loop-burst : goal.invariant-loop-burst
invariant-loop-burst l = l.out.items ≡ l.fn.out.items ++ parts_text (flat_map (burst_parts_of l.net l.scale) (take l.burst-index l.bursts))
