-- the table is loaded after the network
use Rattle.bt_load.specs.Kinds.{network_file}
use Rattle.bt_load.specs.Loaders.{file}
use Rattle.bt_load.proofs.Loads.{came_then, file_sooner}
use Rattle.bt_cli.specs.Table.{PrintsTraffic, table_file}
use Rattle.bt_cli.proofs.table.tell_traffic.Goals as goal

pub returns : goal.returns
returns g c =
    let net = c.in_ok-net.net in
    let table = c.args.table.now in
    came_then (file network_file c.args.net.now) (λ network. file (table_file network) table) (λ both. PrintsTraffic both.0 both.1) (g.F.Files.told c.args.files.now) (g.F.Files.told c.load_network.new.files) _ _ _ net
    (file_sooner (table_file net) table) c.in_ok-net.ensures.same c.in_ok-net.ensures.later c.in_ok-net.ensures.loaded c.traffic_of_file.result c.traffic_of_file.ensures
