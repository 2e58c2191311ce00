-- the items so far
use Rattle.std.proofs.Common.{◌≡◌, ◌++◌, flat_map, take}
use Rattle.bt_chart.specs.Page.{mode_item}
use Rattle.bt_chart.proofs.plan_part.add_items.Given as goal

abbrev pub invariant-loop-mode : goal.invariant-loop-mode
invariant-loop-mode l = l.out.items ≡ l.fn.out.items ++ flat_map (mode_item l.net) (take l.mode-index l.modes)
