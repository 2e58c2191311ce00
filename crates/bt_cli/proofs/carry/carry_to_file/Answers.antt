-- the demand is carried onto the network that was loaded
use Rattle.bt_load.specs.Kinds.{network_file}
use Rattle.bt_load.specs.Loaders.{file}
use Rattle.bt_load.proofs.Loads.{came_on}
use Rattle.bt_cli.specs.Carry.{PrintsCarry}
use Rattle.bt_cli.proofs.carry.carry_to_file.Goals as goal

pub returns : goal.returns
returns g c =
    let looked = c.args.looked in
    came_on (file network_file c.args.new.now) (PrintsCarry looked.net looked.bytes.items) (g.F.Files.told c.args.files.now) _ c.in_ok-new.new c.in_ok-new.ensures.loaded c.carry_report.result c.carry_report.ensures
