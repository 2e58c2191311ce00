use Rattle.bt_demand.proofs.SameDemand.{same_demands}
use Rattle.bt_demand.proofs.demand_laws.links_tell_demands.Goals as goal

pub returns : goal.returns
returns c = record { same = λ a b is js same. same_demands a b is js (λ e. same e.0 e.1) }
