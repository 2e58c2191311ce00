-- the lines of the bursts so far
use Rattle.std.proofs.Common.{◌≡◌, ◌++◌, map, take}
use Rattle.bt_text.specs.Text.{ended}
use Rattle.bt_timing.specs.SendsText.{send_line}
use Rattle.bt_timing.proofs.sends.write_sends.Given as goal

abbrev pub invariant-loop-burst : goal.invariant-loop-burst
invariant-loop-burst l = l.text.items ≡ l.fn.text.items ++ ended (map (send_line l.net l.timing) (take l.burst-index l.bursts))
