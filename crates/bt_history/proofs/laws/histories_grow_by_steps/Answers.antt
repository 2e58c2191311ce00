use Rattle.bt_history.proofs.Histories.{Legal-grows, state_grows}
use Rattle.bt_history.proofs.laws.histories_grow_by_steps.Goals as goal

pub returns-clause-legal : goal.returns-clause-legal
returns-clause-legal c = Legal-grows

pub returns-clause-state : goal.returns-clause-state
returns-clause-state c = state_grows
