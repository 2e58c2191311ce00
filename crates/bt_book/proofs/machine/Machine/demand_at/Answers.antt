use Rattle.std.proofs.Common.{refl, ap, ◌∙◌}
use Rattle.bt_net.specs.Network.{Net}
use Rattle.bt_history.proofs.OfNetwork.{redone_of_network, redone_small}
use Rattle.bt_book.proofs.machine.Machine.demand_at.Goals as goal

-- the edits were made again on the network
pub returns-clause-network : goal.returns-clause-network
returns-clause-network c =
    let net = c.args.self.now.net in
    redone_of_network net net _ _ c.redo-redone.new.occupancy.links c.into_demand-demand.result refl
    c.into_demand-demand.ensures.same c.into_demand-demand.ensures.demand c.in_ok-redone.ensures.redone

pub returns-clause-sums : goal.returns-clause-sums
returns-clause-sums c =
    let net = c.args.self.now.net in
    redone_small net net _ _ c.redo-redone.new.occupancy.links c.into_demand-demand.result refl
    c.into_demand-demand.ensures.same c.slots-slots.ensures.in_range (c.slots-slots.ensures.same ∙ ap (λ (n : Net). n.slots) (c.in_ok-occupancy.ensures.net ∙ c.network.ensures.same)) c.in_ok-redone.ensures.redone
