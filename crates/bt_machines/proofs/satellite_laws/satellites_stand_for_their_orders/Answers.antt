use Rattle.bt_machines.proofs.Said.{stands_for}
use Rattle.bt_machines.proofs.satellite_laws.satellites_stand_for_their_orders.Goals as goal

pub returns : goal.returns
returns c = record { stands = λ mark events. stands_for mark events }
