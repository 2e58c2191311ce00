-- it is told of the network and the demand that were loaded
use Rattle.bt_load.proofs.Loads.{came_on}
use Rattle.bt_cli.specs.Capacity.{TellsCapacity}
use Rattle.bt_cli.specs.Fitting.{asked_files}
use Rattle.bt_cli.proofs.capacity.tell_capacity.Goals as goal

pub returns : goal.returns
returns g c =
    came_on (asked_files c.args.net.now c.args.traffic.now) (λ asked. TellsCapacity asked.0 asked.1) (g.F.Files.told c.args.files.now) _ (c.in_ok-asked.asked.net, c.in_ok-asked.asked.demand) c.in_ok-asked.ensures.loaded c.capacity_report.result c.capacity_report.ensures
