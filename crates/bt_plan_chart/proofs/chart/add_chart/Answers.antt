use Rattle.std.proofs.Common.{List, flat_map, ◌++◌, ap, ◌∙◌}
use Rattle.bt_frame.specs.declared.mode.Mode.{Mode}
use Rattle.bt_demand.specs.declared.burst.Burst.{Burst}
use Rattle.bt_plan_chart.specs.Parts.{parts_text}
use Rattle.bt_plan_chart.specs.Chart.{burst_parts_of, clashes_parts, heading_parts, lanes_parts, legend_parts, modes_parts, overrun_parts_of, ruler_parts}
use Rattle.bt_plan_chart.specs.declared.scale.Direction.TheVariants.{Up, Down}
use Rattle.bt_plan_chart.proofs.Adding.{and_more, and_then}
use Rattle.bt_plan_chart.proofs.chart.add_chart.Goals as goal

-- part by part
pub returns : goal.returns
returns c =
    let net = c.args.net.now in
    let scale = c.args.scale in
    let plan = c.args.plan.now in
    let before = c.args.out.now.items in
    let heading = heading_parts net plan c.args.choice in
    let ruler = heading ++ ruler_parts scale in
    let modes = ruler ++ modes_parts net scale plan.schedule.modes in
    let up = modes ++ lanes_parts net scale plan Up in
    let down = up ++ lanes_parts net scale plan Down in
    let bursts = down ++ flat_map (burst_parts_of net scale) plan.bursts in
    let overruns = bursts ++ flat_map (overrun_parts_of net scale) plan.bursts in
    let clashes = overruns ++ clashes_parts net scale Up plan.bursts in
    and_then c.add_legend.result (clashes ++ clashes_parts net scale Down plan.bursts) (legend_parts net scale) before _ _
    (and_more clashes (clashes_parts net scale Down plan.bursts) before _ _
    (and_more overruns (clashes_parts net scale Up plan.bursts) before _ _
    (and_more bursts (flat_map (overrun_parts_of net scale) plan.bursts) before _ _
    (and_more down (flat_map (burst_parts_of net scale) plan.bursts) before _ _
    (and_more up (lanes_parts net scale plan Down) before _ _
    (and_more modes (lanes_parts net scale plan Up) before _ _
    (and_more ruler (modes_parts net scale plan.schedule.modes) before _ _
    (and_more heading (ruler_parts scale) before _ _ c.in_ok-add_heading.ensures c.in_ok-add_ruler.ensures)
    (c.in_ok-add_modes.ensures ∙ ap (λ (l : List Mode). c.add_ruler.new.out.items ++ parts_text (modes_parts net scale l)) c.as_slice.ensures.same))
    c.in_ok-add_lanes.ensures)
    c.in_ok-add_lanes-2.ensures)
    (c.in_ok-add_bursts.ensures ∙ ap (λ (l : List Burst). c.add_lanes-2.new.out.items ++ parts_text (flat_map (burst_parts_of net scale) l)) c.as_slice-2.ensures.same))
    (c.in_ok-add_overruns.ensures ∙ ap (λ (l : List Burst). c.add_bursts.new.out.items ++ parts_text (flat_map (overrun_parts_of net scale) l)) c.as_slice-3.ensures.same))
    (c.in_ok-add_clashes.ensures ∙ ap (λ (l : List Burst). c.add_overruns.new.out.items ++ parts_text (clashes_parts net scale Up l)) c.as_slice-4.ensures.same))
    (c.in_ok-add_clashes-2.ensures ∙ ap (λ (l : List Burst). c.add_clashes.new.out.items ++ parts_text (clashes_parts net scale Down l)) c.as_slice-5.ensures.same))
    c.add_legend.ensures
