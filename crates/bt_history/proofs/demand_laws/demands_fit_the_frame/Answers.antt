use Rattle.bt_history.proofs.Demands.{demand_fits, demand_of_network}
use Rattle.bt_history.proofs.demand_laws.demands_fit_the_frame.Goals as goal

pub returns-clause-network : goal.returns-clause-network
returns-clause-network c = demand_of_network

pub returns-clause-fits : goal.returns-clause-fits
returns-clause-fits c = demand_fits
