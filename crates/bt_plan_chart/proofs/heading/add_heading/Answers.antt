use Rattle.std.proofs.Common.{[], ◌∷◌, length}
use Rattle.bt_plan_chart.specs.Chart.{title_part, counts_part, critical_beam, critical_direction, direction_name, name_of_beam}
use Rattle.bt_plan_chart.proofs.Adding.{and_then}
use Rattle.bt_plan_chart.proofs.heading.add_heading.Goals as goal

pub returns : goal.returns
returns c =
    let plan = c.args.plan.now in
    let net = c.args.net.now in
    let line = plan.schedule.critical in
    and_then c.add_counts.result (title_part plan.edition.0 c.args.choice.slots ∷ []) (counts_part plan.schedule.length (length plan.schedule.modes) (length plan.bursts) (direction_name (critical_direction line)) (name_of_beam net (critical_beam line)) net.slots ∷ [])
    c.args.out.now.items c.add_title.new.out.items c.add_counts.new.out.items c.in_ok-add_title.ensures c.add_counts.ensures
