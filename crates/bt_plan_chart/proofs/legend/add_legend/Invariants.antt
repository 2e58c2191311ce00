use Rattle.std.proofs.Common.{◌≡◌, ◌++◌, ◌∷◌, [], map}
use Rattle.std.specs.List.{range_with_len}
use Rattle.bt_plan_chart.specs.Chart.{fill_part_at, legend_head}
use Rattle.bt_plan_chart.specs.Parts.{parts_text}
use Rattle.bt_plan_chart.proofs.legend.add_legend.Given as goal

-- the fills so far were added
abbrev pub invariant-loop-beam : goal.invariant-loop-beam
invariant-loop-beam l = l.out.items ≡ l.fn.out.items ++ parts_text ((legend_head l.scale ∷ []) ++ map (fill_part_at l.net l.scale) (range_with_len 0 l.beam))
