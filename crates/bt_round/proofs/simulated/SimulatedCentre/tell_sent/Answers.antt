use Rattle.std.proofs.Common.{All, subst, ap, reverse, ◌∙◌}
use Rattle.bt_net.specs.Network.{Net}
use Rattle.bt_world.specs.Life.{past_of}
use Rattle.bt_site.specs.World.{sent}
use Rattle.bt_round.specs.Simulated.{SimulatedAir}
use Rattle.bt_round.specs.Worker.{NamesOwn}
use Rattle.bt_round.proofs.Sending.{all-name}
use Rattle.bt_round.proofs.simulated.SimulatedCentre.tell_sent.Goals as goal

pub sent_lines-requires-clause-terminals : goal.sent_lines-requires-clause-terminals
sent_lines-requires-clause-terminals g c =
    let life = c.self.inside.world in
    subst (λ (net : Net). All (NamesOwn net) (sent life.opening (past_of life)))
    (ap (λ (a : SimulatedAir). a.life.opening.net) c.self.view_is ∙ c.requires.network)
    (all-name life.opening (reverse life.events) c.self.invariant.world)
