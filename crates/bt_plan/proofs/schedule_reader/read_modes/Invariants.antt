-- the modes so far, in front of those that are left, are all the modes; each line takes a newline at least
use Rattle.std.proofs.Common.{◌≡◌, ◌+◌, ◌≤◌, length}
use Rattle.bt_text.specs.Text.{lines}
use Rattle.bt_plan.specs.ScheduleText.{modes_in}
use Rattle.bt_text.proofs.Front.{with_front}
use Rattle.bt_plan.proofs.schedule_reader.read_modes.Given as goal

abbrev pub invariant-loop-line : goal.invariant-loop-line
invariant-loop-line l = record {
  reading : with_front l.modes.items (modes_in l.size l.at (lines l.rest)) ≡ modes_in l.size 3 (lines l.text);
  count : length l.modes.items + 3 ≡ l.at;
  lines_left : l.at + length l.rest ≤ 3 + length l.text;
}

abbrev pub decreases-loop-line : goal.decreases-loop-line
decreases-loop-line l = length l.rest
