-- the lines of the length, of the bound and of the modes so far
use Rattle.std.proofs.Common.{◌≡◌, ◌++◌, take}
use Rattle.bt_trans.proofs.Printed.{part_begun}
use Rattle.bt_trans.proofs.writer.write_part.Given as goal

abbrev pub invariant-loop-mode : goal.invariant-loop-mode
invariant-loop-mode l = record {
  same : l.mode-items ≡ l.schedule.modes;
  so_far : l.text.items ≡ l.fn.text.items ++ part_begun l.matrix l.schedule.length l.schedule.bound (take l.mode-index l.schedule.modes);
}
