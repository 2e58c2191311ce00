use Rattle.bt_net.specs.Name.{is_terminal_name}
use Rattle.bt_net.proofs.Names.{good_name}
use Rattle.bt_net.proofs.network.Network.name_of.Goals as goal

pub returns-clause-good : goal.returns-clause-good
returns-clause-good c =
    good_name is_terminal_name c.self.inside.terminals c.args.terminal.0 c.at.result.0.now c.at.result.1 c.self.invariant.terminals.names c.at.ensures
