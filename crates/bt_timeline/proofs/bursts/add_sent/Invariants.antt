use Rattle.std.proofs.Common.{◌≡◌, ◌++◌, take, flat_map}
use Rattle.bt_words.specs.Written.{Extends}
use Rattle.bt_timeline.proofs.SentLines.{line_where_sent}
use Rattle.bt_timeline.proofs.bursts.add_sent.Given as goal

-- the lines of those bursts so far that the terminal sends
abbrev pub invariant-loop-burst : goal.invariant-loop-burst
invariant-loop-burst l = record {
  added : l.out.items ++ l.lines ≡ l.fn.out.items ++ flat_map (line_where_sent l.net l.terminal) (take l.burst-index l.bursts);
  kept : Extends l.fn.out.items l.out.items;
}
