use Rattle.std.proofs.Common.{List, sym, subst}
use Rattle.bt_demand.specs.declared.demand.Link.{Link}
use Rattle.bt_demand.specs.Traffic.{AreOfNetwork}
use Rattle.bt_history.proofs.Demands.{demand_of_network}
use Rattle.bt_look.proofs.Asked.{earlier_of_network}
use Rattle.bt_look.proofs.demand.demand_in.Goals as goal

-- the last demand
pub returns-in_default-clause-terminals : goal.returns-in_default-clause-terminals
returns-in_default-clause-terminals g c =
    let net = c.args.net.now in
    subst (λ (links : List Link). AreOfNetwork net links) (sym c.in_ok-copy.ensures.same)
    (demand_of_network net c.args.book.now.state.changes c.demand.result.now c.beam_count-beams.ensures.sound c.requires.follows c.demand.ensures.demand)

-- that of an earlier edition
pub returns-clause-terminals : goal.returns-clause-terminals
returns-clause-terminals g c =
    earlier_of_network c.args.net.now c.args.book.now.state.changes c.in-Some.number.0 c.in_ok-demand_at.field-0 c.beam_count-beams.ensures.sound c.requires.follows c.in_ok-demand_at.ensures.demand
