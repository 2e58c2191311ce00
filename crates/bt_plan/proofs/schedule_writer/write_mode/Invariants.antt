-- the duration and the downlinks so far
use Rattle.std.proofs.Common.{◌≡◌, ◌++◌, take}
use Rattle.bt_plan.proofs.Printed.{mode_begun}
use Rattle.bt_plan.proofs.schedule_writer.write_mode.Given as goal

abbrev pub invariant-loop-down : goal.invariant-loop-down
invariant-loop-down l = l.text.items ≡ l.fn.text.items ++ mode_begun l.mode.duration (take l.down-index l.mode.perm)
