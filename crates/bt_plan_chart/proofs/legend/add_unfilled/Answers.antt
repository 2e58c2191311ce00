use Rattle.std.proofs.Common.{[], ◌∷◌}
use Rattle.bt_plan_chart.specs.Chart.{free_part, silent_part}
use Rattle.bt_plan_chart.proofs.Adding.{and_then}
use Rattle.bt_plan_chart.proofs.legend.add_unfilled.Goals as goal

pub returns : goal.returns
returns c = and_then c.add_free.result (silent_part c.args.scale ∷ []) (free_part c.args.scale ∷ []) c.args.out.now.items c.add_silent.new.out.items c.add_free.new.out.items c.in_ok-add_silent.ensures c.add_free.ensures
