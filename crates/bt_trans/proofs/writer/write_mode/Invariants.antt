-- the duration and the downlinks so far
use Rattle.std.proofs.Common.{◌≡◌, ◌++◌, take}
use Rattle.bt_trans.proofs.Printed.{part_mode_begun}
use Rattle.bt_trans.proofs.writer.write_mode.Given as goal

abbrev pub invariant-loop-down : goal.invariant-loop-down
invariant-loop-down l = l.text.items ≡ l.fn.text.items ++ part_mode_begun l.mode.duration (take l.down-index l.mode.perm)
