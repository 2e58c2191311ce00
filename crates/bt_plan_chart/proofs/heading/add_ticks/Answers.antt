use Rattle.std.proofs.Common.{◌≡◌, ℕ, ◌+◌, ◌*◌, ◌++◌, List, flat_map, ap, ◌∙◌, arith}
use Rattle.std.specs.List.{range_with_len}
use Rattle.bt_picture.specs.Picture.{Part}
use Rattle.bt_plan_chart.specs.Chart.{first_tick, last_tick_parts, tick_parts}
use Rattle.bt_plan_chart.specs.Parts.{parts_text}
use Rattle.bt_plan_chart.proofs.Adding.{and_then, next_parts, none_yet}
use Rattle.bt_plan_chart.proofs.heading.add_ticks.Goals as goal

pub loop-tick-init : goal.loop-tick-init
loop-tick-init c = none_yet c.args.out.now.items

pub loop-tick-preserved : goal.loop-tick-preserved
loop-tick-preserved c = next_parts (λ tick. tick_parts c.args.scale c.args.step (c.first_tick-first.result + tick * c.args.step)) c.loop-tick.tick _ _ _ c.loop-tick.invariant c.in_ok-add_tick_within.ensures

pub returns : goal.returns
returns c =
    let scale = c.args.scale in
    let step = c.args.step in
    let first = c.first_tick-first.result in
    let same : c.loop-tick.tick ≡ 12 = omega arith in
    let ticks : ℕ → ℕ → List Part = λ begin n. flat_map (λ tick. tick_parts scale step (begin + tick * step)) (range_with_len 0 n) in
    and_then c.add_last_tick.result (ticks (first_tick scale.begin step) 12) (last_tick_parts scale) c.args.out.now.items c.loop-tick.out.items c.add_last_tick.new.out.items
    (c.loop-tick.invariant ∙ ap (λ n. c.args.out.now.items ++ parts_text (ticks first n)) same ∙ ap (λ begin. c.args.out.now.items ++ parts_text (ticks begin 12)) c.first_tick-first.ensures.same)
    c.add_last_tick.ensures
