use Rattle.std.proofs.Common.{◌≡◌, ◌++◌, take}
use Rattle.bt_timeline.specs.Timeline.{burst_lines}
use Rattle.bt_words.specs.declared.form.Form.TheVariants as form
use Rattle.bt_station.proofs.say.add_bursts.Given as goal

-- the bursts so far were added
abbrev pub invariant-loop-burst : goal.invariant-loop-burst
invariant-loop-burst l = record { added : l.out.items ≡ l.fn.out.items ++ burst_lines l.net form.Air (take l.burst-index l.bursts) }
