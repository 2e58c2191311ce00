use Rattle.std.proofs.Common.{◌≡◌, ◌++◌, take}
use Rattle.bt_timeline.specs.Replayed.{link_lines}
use Rattle.bt_look.proofs.demand.add_links.Given as goal

-- the lines of the links so far
abbrev pub invariant-loop-link : goal.invariant-loop-link
invariant-loop-link l = l.text.items ≡ l.fn.text.items ++ link_lines l.net (take l.link-index l.links)
