-- the names are looked up after the network is loaded, and then the output is loaded
use Rattle.std.proofs.Common.{map, rules}
use Rattle.std.specs.String.{string_bytes}
use Rattle.bt_load.specs.Kinds.{output_file}
use Rattle.bt_load.specs.Loaders.{file}
use Rattle.bt_load.proofs.Loads.{came_then, file_sooner}
use Rattle.bt_chart.specs.Runs.{DrawsRun, chosen_file}
use Rattle.bt_chart.proofs.run.chart_run.Goals as goal

pub returns : goal.returns
returns g c =
    let net = c.in_ok-net.net in
    let output = c.args.output.now in
    let names = map string_bytes c.args.names.now in
    came_then (chosen_file c.args.net.now names) (λ network. file (output_file network) output) (λ both. DrawsRun c.args.drawing) (g.F.Files.told c.args.files.now) (g.F.Files.told c.load_network.new.files) _ _ _ net
    (file_sooner (output_file net) output) c.in_ok-net.ensures.same c.in_ok-net.ensures.later (c.in_ok-net.ensures.loaded, search rules) c.chart_output.result c.chart_output.ensures
