use Rattle.bt_machines.proofs.Joins.{joins_ahead}
use Rattle.bt_machines.proofs.satellite_laws.changes_are_armed_ahead.Goals as goal

pub returns : goal.returns
returns c = record { ahead = λ orders mark message. joins_ahead orders mark message }
