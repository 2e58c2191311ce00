use Rattle.bt_demand.proofs.BySender.{demand_seen}
use Rattle.bt_demand.proofs.demand.Demand.rows.Goals as goal

-- the rows are a demand
pub returns-clause-demand : goal.returns-clause-demand
returns-clause-demand c = demand_seen c.self.inside.rows.items c.args.self.now c.self.view_is c.self.invariant
