use Rattle.bt_machines.proofs.Stay.{bursts-stay, transmitted-stay}
use Rattle.bt_machines.proofs.terminal_laws.bursts_in_use_stay.Goals as goal

pub returns-clause-stay : goal.returns-clause-stay
returns-clause-stay c = bursts-stay

pub returns-clause-transmitted : goal.returns-clause-transmitted
returns-clause-transmitted c = transmitted-stay
