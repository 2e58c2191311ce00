-- the modes so far, in front of what is left, are all that is read; each line takes a newline at least
use Rattle.std.proofs.Common.{◌≡◌, ◌+◌, ◌≤◌, length}
use Rattle.bt_text.specs.Text.{lines}
use Rattle.bt_plan.specs.PlanText.{modes_and_bursts}
use Rattle.bt_plan.proofs.PlanLines.{with_modes}
use Rattle.bt_plan.proofs.plan_reader.read_modes_and_bursts.Given as goal

abbrev pub invariant-loop-line : goal.invariant-loop-line
invariant-loop-line l = record {
  reading : with_modes l.modes.items (modes_and_bursts l.net l.at (lines l.rest)) ≡ modes_and_bursts l.net 4 (lines l.text);
  count : length l.modes.items + 4 ≡ l.at;
  lines_left : l.at + length l.rest ≤ 4 + length l.text;
}

abbrev pub decreases-loop-line : goal.decreases-loop-line
decreases-loop-line l = length l.rest
