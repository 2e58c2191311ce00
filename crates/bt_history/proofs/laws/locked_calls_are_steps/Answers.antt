use Rattle.bt_history.proofs.TurnLock.{answered}
use Rattle.bt_history.proofs.laws.locked_calls_are_steps.Goals as goal

pub returns : goal.returns
returns c = record { step = answered }
