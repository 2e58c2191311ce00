-- the items so far
use Rattle.std.proofs.Common.{◌≡◌, ◌++◌, flat_map, take}
use Rattle.bt_chart.specs.Page.{link_item}
use Rattle.bt_chart.proofs.links.add_items.Given as goal

abbrev pub invariant-loop-link : goal.invariant-loop-link
invariant-loop-link l = l.out.items ≡ l.fn.out.items ++ flat_map (link_item l.net) (take l.link-index l.links)
