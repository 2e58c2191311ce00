use Rattle.bt_timing.proofs.GoodPlans.{all_keep_to_slots, all_keep_to_modes, all_arrive_apart, all_leave_apart}
use Rattle.bt_timing.proofs.laws.guarded_bursts_keep_to_their_slots.Goals as goal

pub returns-clause-slots : goal.returns-clause-slots
returns-clause-slots c = all_keep_to_slots

pub returns-clause-modes : goal.returns-clause-modes
returns-clause-modes c = all_keep_to_modes

pub returns-clause-beams : goal.returns-clause-beams
returns-clause-beams c = all_arrive_apart

pub returns-clause-terminals : goal.returns-clause-terminals
returns-clause-terminals c = all_leave_apart
