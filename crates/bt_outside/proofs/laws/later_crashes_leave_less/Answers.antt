use Rattle.bt_outside.proofs.Moments.{in_order}
use Rattle.bt_outside.proofs.laws.later_crashes_leave_less.Goals as goal

pub returns : goal.returns
returns c = in_order
