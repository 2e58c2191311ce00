use Rattle.bt_machines.proofs.Joins.{joins_keep_fronts}
use Rattle.bt_machines.proofs.satellite_laws.past_fronts_stay.Goals as goal

pub returns : goal.returns
returns c = record { same = λ orders mark past message h. joins_keep_fronts orders mark past message h }
