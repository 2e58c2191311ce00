-- the other network is loaded after the network and the bytes of the journal
use Rattle.bt_load.specs.Kinds.{network_file}
use Rattle.bt_load.specs.Loaders.{file}
use Rattle.bt_load.proofs.Loads.{came_then, file_sooner}
use Rattle.bt_cli.specs.Carry.{PrintsCarry}
use Rattle.bt_cli.specs.Looks.{journal_files}
use Rattle.bt_cli.proofs.carry.tell_carry.Goals as goal

pub returns : goal.returns
returns g c =
    let looked = c.in_ok-looked.looked in
    let new = c.args.new.now in
    came_then (journal_files c.args.net.now c.args.journal.now) (λ both. file network_file new) (λ all. PrintsCarry all.0.0 all.0.1 all.1) (g.F.Files.told c.args.files.now) (g.F.Files.told c.load_looked.new.files) _ _ _
    (looked.net, looked.bytes.items) (file_sooner network_file new) c.in_ok-looked.ensures.same c.in_ok-looked.ensures.later c.in_ok-looked.ensures.loaded c.carry_to_file.result c.carry_to_file.ensures
