-- the words are looked up after the network is loaded, and then the plan is loaded
use Rattle.std.proofs.Common.{map, rules, subst}
use Rattle.std.specs.String.{string_bytes}
use Rattle.bt_load.specs.Kinds.{plan_file}
use Rattle.bt_load.specs.Loaders.{Loads, file}
use Rattle.bt_outside.specs.Told.{Rose}
use Rattle.bt_report.specs.Printing.{CameTo}
use Rattle.bt_plan_chart.specs.declared.choice.Choice.{Choice}
use Rattle.bt_load.proofs.Loads.{came_then, file_sooner}
use Rattle.bt_chart.specs.Plans.{DrawsPart, DrawsPlan, part_file}
use Rattle.bt_chart.proofs.plan.chart_plan.Goals as goal

pub returns : goal.returns
returns g c =
    let net = c.in_ok-net.net in
    let plan = c.args.plan.now in
    let words = map string_bytes c.args.words.now in
    came_then (part_file c.args.net.now words) (λ network. file (plan_file network) plan) (λ both. DrawsPlan words both.0 both.1) (g.F.Files.told c.args.files.now) (g.F.Files.told c.load_network.new.files) _ _ _ net
    (file_sooner (plan_file net) plan) c.in_ok-net.ensures.same c.in_ok-net.ensures.later (c.in_ok-net.ensures.loaded, search rules) c.chart_plan_file.result
    (subst (λ (choice : Choice). CameTo (Loads (file (plan_file net) plan) (DrawsPart choice net) (g.F.Files.told c.load_network.new.files) (Rose (g.F.Files.fault_count c.load_network.new.files) (g.F.Files.fault_count c.chart_plan_file.new.files))) c.chart_plan_file.result) c.choice_of-choice.ensures c.chart_plan_file.ensures)
