use Rattle.std.proofs.Common.{◌≡◌, ◌++◌, ◌+◌, ◌*◌, flat_map}
use Rattle.std.specs.List.{range_with_len}
use Rattle.bt_plan_chart.specs.Chart.{tick_parts}
use Rattle.bt_plan_chart.specs.Parts.{parts_text}
use Rattle.bt_plan_chart.proofs.heading.add_ticks.Given as goal

-- the ticks so far were added
abbrev pub invariant-loop-tick : goal.invariant-loop-tick
invariant-loop-tick l = l.out.items ≡ l.fn.out.items ++ parts_text (flat_map (λ tick. tick_parts l.scale l.step (l.first + tick * l.step)) (range_with_len 0 l.tick))
