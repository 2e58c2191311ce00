use Rattle.std.proofs.Common.{◌≡◌, ◌++◌, take}
use Rattle.bt_words.specs.Written.{Extends}
use Rattle.bt_timeline.specs.Timeline.{burst_lines}
use Rattle.bt_timeline.proofs.bursts.add_bursts.Given as goal

-- the bursts so far were added
abbrev pub invariant-loop-burst : goal.invariant-loop-burst
invariant-loop-burst l = record {
  added : l.out.items ++ l.lines ≡ l.fn.out.items ++ burst_lines l.net l.form (take l.burst-index l.bursts);
  kept : Extends l.fn.out.items l.out.items;
}
