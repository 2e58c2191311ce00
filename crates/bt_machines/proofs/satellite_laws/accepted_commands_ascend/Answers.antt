use Rattle.bt_machines.specs.Satellite.{new_at}
use Rattle.bt_machines.proofs.Ascending.{accepted_ascend}
use Rattle.bt_machines.proofs.satellite_laws.accepted_commands_ascend.Goals as goal

pub returns : goal.returns
returns c = record { ascend = λ mark events. accepted_ascend (new_at mark) events }
