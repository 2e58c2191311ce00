use Rattle.std.proofs.Common.{◌≡◌, ◌++◌, take}
use Rattle.bt_export.specs.Edits.{surplus}
use Rattle.bt_export.proofs.surplus.add_links.Given as goal

-- what was found among the links so far
abbrev pub invariant-loop-link : goal.invariant-loop-link
invariant-loop-link l = l.found.items ≡ l.fn.found.items ++ surplus (take l.link-index l.links) l.others
