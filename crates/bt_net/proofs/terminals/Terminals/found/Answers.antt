use Rattle.bt_net.proofs.Names.{place_of_name}
use Rattle.bt_net.proofs.terminals.Terminals.found.Goals as goal

pub returns-in-Some : goal.returns-in-Some
returns-in-Some c = place_of_name c.args.self.now c.in-Some.number c.args.word.now c.requires c.in-Some.ensures
