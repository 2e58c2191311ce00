-- it is told of the network and the bytes that were loaded
use Rattle.bt_load.proofs.Loads.{came_on}
use Rattle.bt_cli.specs.Looks.{PrintsLook, journal_files}
use Rattle.bt_cli.proofs.look.tell_journal.Goals as goal

pub returns : goal.returns
returns g c =
    let looked = c.in_ok-looked.looked in
    came_on (journal_files c.args.net.now c.args.journal.now) (λ both. PrintsLook c.args.look both.0 both.1) (g.F.Files.told c.args.files.now) _ (looked.net, looked.bytes.items) c.in_ok-looked.ensures.loaded c.look_report.result c.look_report.ensures
