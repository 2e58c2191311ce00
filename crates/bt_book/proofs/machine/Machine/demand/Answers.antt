use Rattle.std.proofs.Common.{ap}
use Rattle.bt_history.specs.Records.{Records}
use Rattle.bt_history.proofs.OfNetwork.{kept_of_network, kept_small}
use Rattle.bt_book.proofs.machine.Machine.demand.Goals as goal

-- the edits named terminals of the network
pub returns-clause-network : goal.returns-clause-network
returns-clause-network c =
    kept_of_network c.self.inside.kept.occupancy.net c.args.self.now.net _ c.self.inside.kept.occupancy.links c.demand.result.now (ap (λ (r : Records). r.net) c.self.view_is)
    c.demand.ensures.same c.demand.ensures.demand c.self.invariant.keeps

-- and kept the frame
pub returns-clause-sums : goal.returns-clause-sums
returns-clause-sums c =
    kept_small c.self.inside.kept.occupancy.net c.args.self.now.net _ c.self.inside.kept.occupancy.links c.demand.result.now (ap (λ (r : Records). r.net) c.self.view_is)
    c.demand.ensures.same c.slots-slots.ensures.in_range c.slots-slots.ensures.same c.self.invariant.keeps
