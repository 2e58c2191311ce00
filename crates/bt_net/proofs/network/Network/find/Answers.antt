use Rattle.std.proofs.Common.{ap, sym, position, ◌∙◌}
use Rattle.std.specs.Str.{bytes_eq}
use Rattle.bt_net.specs.Network.{Net, names_of}
use Rattle.bt_net.proofs.Names.{not_found, found_name}
use Rattle.bt_net.proofs.network.Network.find.Goals as goal

pub returns-in_err-number-clause-none : goal.returns-in_err-number-clause-none
returns-in_err-number-clause-none c =
    let same = ap (λ (net : Net). position (bytes_eq c.args.name.now) (names_of net.terminals)) c.self.view_is in
    rw c.from_residual.ensures (not_found c.args.self.now.terminals c.args.name.now (sym same ∙ sym c.in_err-number.ensures))

pub returns-clause-some : goal.returns-clause-some
returns-clause-some c =
    let same = ap (λ (net : Net). position (bytes_eq c.args.name.now) (names_of net.terminals)) c.self.view_is in
    found_name c.args.self.now.terminals c.args.name.now c.in_ok-number.number (sym same ∙ sym c.in_ok-number.ensures)
