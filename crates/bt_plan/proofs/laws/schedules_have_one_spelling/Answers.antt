-- the laws of the text of a schedule
use Rattle.bt_plan.proofs.OneText.{schedule_spelled}
use Rattle.bt_plan.proofs.ReadBack.{schedule_read}
use Rattle.bt_plan.proofs.laws.schedules_have_one_spelling.Goals as goal

pub returns-clause-read : goal.returns-clause-read
returns-clause-read c = schedule_read

pub returns-clause-spelled : goal.returns-clause-spelled
returns-clause-spelled c = λ size schedule text few read. (schedule_spelled size text schedule few read).0

pub returns-clause-in_range : goal.returns-clause-in_range
returns-clause-in_range c = λ size schedule text few read. (schedule_spelled size text schedule few read).1
