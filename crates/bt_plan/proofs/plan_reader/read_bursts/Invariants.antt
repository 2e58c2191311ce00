-- the bursts so far, in front of those that are left, are all the bursts; each line takes a newline at least
use Rattle.std.proofs.Common.{◌≡◌, ◌+◌, ◌≤◌, None, length}
use Rattle.bt_text.specs.Text.{lines}
use Rattle.bt_text.proofs.Front.{with_front}
use Rattle.bt_plan.specs.PlanText.{bursts_in}
use Rattle.bt_plan.proofs.PlanLines.{AreInOrder}
use Rattle.bt_plan.proofs.plan_reader.read_bursts.Given as goal

abbrev pub invariant-loop-line : goal.invariant-loop-line
invariant-loop-line l = record {
  reading : with_front l.bursts.items (bursts_in l.net l.at l.above (lines l.rest)) ≡ bursts_in l.net l.first None (lines l.text);
  order : AreInOrder l.above l.bursts.items;
  count : length l.bursts.items + l.first ≡ l.at;
  lines_left : l.at + length l.rest ≤ l.first + length l.text;
}

abbrev pub decreases-loop-line : goal.decreases-loop-line
decreases-loop-line l = length l.rest
