use Rattle.bt_history.proofs.Demands.{demand_of_network}
use Rattle.bt_look.proofs.demand.demand_of_book.Goals as goal

-- the demand is one on the network
pub demand_text-requires : goal.demand_text-requires
demand_text-requires g c = record {
  terminals = demand_of_network c.args.net.now c.args.book.now.state.changes c.demand.result.now c.beam_count-beams.ensures.sound c.requires.follows c.demand.ensures.demand;
}
