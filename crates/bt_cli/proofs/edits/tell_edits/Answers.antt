-- the demand is loaded after the network and the bytes of the journal
use Rattle.bt_load.proofs.Loads.{came_then}
use Rattle.bt_cli.specs.Edits.{PrintsEdits}
use Rattle.bt_cli.specs.Fitting.{fitting_file}
use Rattle.bt_cli.specs.Looks.{journal_files}
use Rattle.bt_cli.proofs.LoadsAsked.{fitting_sooner}
use Rattle.bt_cli.proofs.edits.tell_edits.Goals as goal

pub returns : goal.returns
returns g c =
    let looked = c.in_ok-looked.looked in
    let traffic = c.args.traffic.now in
    came_then (journal_files c.args.net.now c.args.journal.now) (λ both. fitting_file both.0 traffic) (λ all. PrintsEdits c.args.desk all.0.0 all.0.1 all.1) (g.F.Files.told c.args.files.now) (g.F.Files.told c.load_looked.new.files) _ _ _
    (looked.net, looked.bytes.items) (fitting_sooner looked.net traffic) c.in_ok-looked.ensures.same c.in_ok-looked.ensures.later c.in_ok-looked.ensures.loaded c.edits_to_file.result c.edits_to_file.ensures
