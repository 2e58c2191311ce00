use Rattle.std.proofs.Common.{◌≤◌, Option, IfSome, sym, ap, ◌∙◌, subst, reverse, arith}
use Rattle.bt_net.specs.Network.{Net}
use Rattle.bt_air.specs.declared.order.Order.{Order}
use Rattle.bt_history.specs.Causes.{CanCome}
use Rattle.bt_round.specs.Simulated.{SimulatedAir}
use Rattle.bt_round.proofs.Wanted.{wanted-can}
use Rattle.bt_round.proofs.simulated.SimulatedCentre.placeable.Goals as goal

pub returns-clause-can_come : goal.returns-clause-can_come
returns-clause-can_come g c =
    let same = ap (λ (a : SimulatedAir). a.life.opening.net) c.self.view_is ∙ c.requires.network in
    let ahead : 1 ≤ c.self.inside.world.opening.net.lead = subst (λ (net : Net). 1 ≤ net.lead) (sym same) (omega (arith, c.lead-lead.ensures.same, c.lead-lead.ensures.in_range)) in
    subst (λ (w : Option Order). IfSome w CanCome) (sym c.wanted.ensures.wanted) (wanted-can c.self.inside.world.opening (reverse c.self.inside.world.events) ahead)
