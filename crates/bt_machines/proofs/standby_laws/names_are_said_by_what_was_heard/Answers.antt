use Rattle.bt_machines.proofs.Heard.{names-said}
use Rattle.bt_machines.proofs.standby_laws.names_are_said_by_what_was_heard.Goals as goal

pub returns : goal.returns
returns c = record { named = λ heard mark up. names-said heard mark up }
