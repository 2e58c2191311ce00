-- the lines of the length, of the critical line and of the modes so far
use Rattle.std.proofs.Common.{◌≡◌, ◌++◌, take}
use Rattle.bt_plan.proofs.Printed.{schedule_begun}
use Rattle.bt_plan.proofs.schedule_writer.write_schedule.Given as goal

abbrev pub invariant-loop-mode : goal.invariant-loop-mode
invariant-loop-mode l = record {
  same : l.mode-items ≡ l.schedule.modes;
  so_far : l.text.items ≡ l.fn.text.items ++ schedule_begun l.schedule.length l.schedule.critical (take l.mode-index l.schedule.modes);
}
