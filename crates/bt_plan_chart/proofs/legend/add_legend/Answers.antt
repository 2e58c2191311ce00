use Rattle.std.proofs.Common.{◌≡◌, [], ◌∷◌, ◌++◌, map, arith}
use Rattle.std.specs.List.{range_with_len}
use Rattle.bt_plan_chart.specs.Chart.{fill_part_at, free_part, legend_head, silent_part}
use Rattle.bt_plan_chart.proofs.Adding.{next_number, all_numbers, and_then}
use Rattle.bt_plan_chart.proofs.legend.add_legend.Goals as goal

pub loop-beam-preserved : goal.loop-beam-preserved
loop-beam-preserved c = next_number (fill_part_at c.args.net.now c.args.scale) (legend_head c.args.scale ∷ []) c.loop-beam.beam _ _ _ c.loop-beam.invariant c.in_ok-add_fill.ensures

pub returns : goal.returns
returns c =
    let fills = map (fill_part_at c.args.net.now c.args.scale) (range_with_len 0 c.args.scale.beams) in
    let same : c.loop-beam.beam ≡ c.args.scale.beams = omega arith in
    and_then c.add_unfilled.result ((legend_head c.args.scale ∷ []) ++ fills) (silent_part c.args.scale ∷ free_part c.args.scale ∷ []) c.args.out.now.items c.loop-beam.out.items c.add_unfilled.new.out.items
    (all_numbers (fill_part_at c.args.net.now c.args.scale) (legend_head c.args.scale ∷ []) c.args.scale.beams c.loop-beam.beam c.args.out.now.items c.loop-beam.out.items same c.loop-beam.invariant)
    c.add_unfilled.ensures
