use Rattle.bt_demand.proofs.Matrices.{matrix_of-Gains}
use Rattle.bt_demand.proofs.demand_laws.gain_adds_to_one_entry.Goals as goal

pub returns : goal.returns
returns c = record { matrix = matrix_of-Gains }
