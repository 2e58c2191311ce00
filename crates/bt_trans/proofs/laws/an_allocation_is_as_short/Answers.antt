use Rattle.bt_trans.proofs.Allocations.{good_allocates}
use Rattle.bt_trans.proofs.laws.an_allocation_is_as_short.Goals as goal

pub returns : goal.returns
returns c = record { exists = good_allocates }
