-- the lines of the bursts so far
use Rattle.std.proofs.Common.{◌≡◌, ◌++◌, map, take}
use Rattle.bt_text.specs.Text.{ended}
use Rattle.bt_plan.specs.PlanSpelling.{burst_line}
use Rattle.bt_plan.proofs.plan_writer.write_bursts.Given as goal

abbrev pub invariant-loop-burst : goal.invariant-loop-burst
invariant-loop-burst l = l.text.items ≡ l.fn.text.items ++ ended (map (burst_line l.net) (take l.burst-index l.bursts))
