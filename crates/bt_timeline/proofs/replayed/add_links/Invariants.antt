use Rattle.std.proofs.Common.{◌≡◌, ◌++◌, take}
use Rattle.bt_timeline.specs.Replayed.{link_lines}
use Rattle.bt_timeline.proofs.replayed.add_links.Given as goal

-- the links so far were added
abbrev pub invariant-loop-link : goal.invariant-loop-link
invariant-loop-link l = record {
  added : l.out.items ≡ l.fn.out.items ++ link_lines l.net (take l.link-index l.links);
}
