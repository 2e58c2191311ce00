use Rattle.bt_machines.proofs.Silence.{is_silent}
use Rattle.bt_machines.proofs.terminal_laws.unheard_superframes_are_silent.Goals as goal

pub returns : goal.returns
returns c = record { silent = λ number events mark others. is_silent number events mark others }
