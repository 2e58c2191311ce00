use Rattle.bt_machines.proofs.Heard.{refused}
use Rattle.bt_machines.proofs.standby_laws.standby_refusals_change_nothing.Goals as goal

pub returns : goal.returns
returns c = record { unchanged = refused }
