use Rattle.bt_machines.proofs.Carried.{refused}
use Rattle.bt_machines.proofs.terminal_laws.terminal_refusals_change_nothing.Goals as goal

pub returns : goal.returns
returns c = record { unchanged = refused }
