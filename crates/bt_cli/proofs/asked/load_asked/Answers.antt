-- the demand is loaded after the network
use Rattle.std.proofs.Common.{rules}
use Rattle.bt_cli.proofs.LoadsAsked.{demand_stops}
use Rattle.bt_cli.proofs.asked.load_asked.Goals as goal

pub returns-in_err-demand-clause-stops : goal.returns-in_err-demand-clause-stops
returns-in_err-demand-clause-stops g c =
    let stops = demand_stops (g.F.Files.told c.args.files.now) (g.F.Files.told c.load_network.new.files) (g.F.Files.fault_count c.args.files.now) (g.F.Files.fault_count c.load_network.new.files) (g.F.Files.fault_count c.load_fitting.new.files)
    c.args.net.now c.args.traffic.now c.in_ok-net.net c.in_ok-net.ensures.same c.in_ok-net.ensures.later c.in_ok-net.ensures.loaded c.in_err-demand.field-0.0 c.in_err-demand.ensures.stops in
    search (rules, stops)
