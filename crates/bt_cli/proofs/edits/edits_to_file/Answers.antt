-- the block is made for the demand that was loaded
use Rattle.bt_load.proofs.Loads.{came_on}
use Rattle.bt_cli.specs.Edits.{PrintsEdits}
use Rattle.bt_cli.specs.Fitting.{fitting_file}
use Rattle.bt_cli.proofs.edits.edits_to_file.Goals as goal

pub returns : goal.returns
returns g c =
    let looked = c.args.looked in
    came_on (fitting_file looked.net c.args.traffic.now) (PrintsEdits c.args.desk looked.net looked.bytes.items) (g.F.Files.told c.args.files.now) _ c.in_ok-fitting.fitting.0 (c.in_ok-fitting.ensures.loaded, c.in_ok-fitting.ensures.fits)
    c.edits_report.result c.edits_report.ensures
