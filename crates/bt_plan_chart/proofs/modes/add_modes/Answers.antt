use Rattle.std.proofs.Common.{[], ◌∷◌}
use Rattle.bt_plan_chart.specs.Chart.{bands_parts, modes_head}
use Rattle.bt_plan_chart.proofs.Adding.{and_then}
use Rattle.bt_plan_chart.proofs.modes.add_modes.Goals as goal

pub returns : goal.returns
returns c = and_then c.add_bands.result (modes_head ∷ []) (bands_parts c.args.net.now c.args.scale c.args.modes.now) c.args.out.now.items c.add_alone.new.out.items c.add_bands.new.out.items
    c.in_ok-add_alone.ensures c.add_bands.ensures
