-- no word but a name names a terminal
use Rattle.std.proofs.Common.{◌≡◌, None, sym, ◌∙◌, subst}
use Rattle.bt_net.specs.Network.{Net}
use Rattle.bt_net.specs.Terminals.{terminal_of}
use Rattle.bt_net.proofs.Names.{names_none}
use Rattle.bt_net.proofs.network.Network.terminal_named.Goals as goal

pub returns-then-not-is_name-clause-terminal : goal.returns-then-not-is_name-clause-terminal
returns-then-not-is_name-clause-terminal c =
    subst (λ (net : Net). None ≡ terminal_of net c.args.word.now) c.self.view_is (names_none _ _ c.args.word.now c.self.invariant.terminals (sym c.is_name.ensures.name ∙ c.if-not-is_name.true))
