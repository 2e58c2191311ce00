use Rattle.bt_machines.proofs.Distinct.{are_distinct}
use Rattle.bt_machines.proofs.terminal_laws.banks_stay_distinct.Goals as goal

pub returns : goal.returns
returns c = record { distinct = λ number events. are_distinct number events }
