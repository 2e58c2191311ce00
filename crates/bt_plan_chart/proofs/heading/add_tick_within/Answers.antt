use Rattle.std.proofs.Common.{[], ◌∷◌, sym, ◌∙◌}
use Rattle.bt_plan_chart.specs.Chart.{tick_part}
use Rattle.bt_plan_chart.specs.Scale.{x_of}
use Rattle.bt_plan_chart.proofs.Adding.{left_out}
use Rattle.bt_plan_chart.proofs.heading.add_tick_within.Goals as goal

pub returns-else-marked : goal.returns-else-marked
returns-else-marked c = left_out _ (tick_part c.args.slot (x_of c.args.scale c.args.slot) ∷ []) c.args.out.now.items (sym c.has_tick-marked.ensures.same ∙ c.if-marked.false)
