use Rattle.bt_machines.proofs.TerminalByEvents.{run-agrees}
use Rattle.bt_machines.proofs.terminal_laws.terminals_are_said_by_events.Goals as goal

pub returns : goal.returns
returns c = record { agrees = λ number latest. run-agrees number latest }
