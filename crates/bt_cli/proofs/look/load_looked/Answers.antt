-- the journal is loaded after the network
use Rattle.std.proofs.Common.{rules}
use Rattle.bt_cli.proofs.Looked.{journal_stops}
use Rattle.bt_cli.proofs.look.load_looked.Goals as goal

pub returns-in_err-bytes-clause-stops : goal.returns-in_err-bytes-clause-stops
returns-in_err-bytes-clause-stops g c =
    let stops = journal_stops (g.F.Files.told c.args.files.now) (g.F.Files.told c.load_network.new.files) (g.F.Files.fault_count c.args.files.now) (g.F.Files.fault_count c.load_network.new.files) (g.F.Files.fault_count c.load_journal.new.files)
    c.args.net.now c.args.journal.now c.in_ok-net.net c.in_ok-net.ensures.same c.in_ok-net.ensures.later c.in_ok-net.ensures.loaded c.in_err-bytes.field-0.0 c.in_err-bytes.ensures.stops in
    search (rules, stops)
