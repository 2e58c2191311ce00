use Rattle.std.proofs.Common.{◌≡◌, take}
use Rattle.bt_demand.specs.Rows.{all_links}
use Rattle.bt_export.proofs.carry.links_of.Given as goal

-- the links of the rows so far
abbrev pub invariant-loop-row : goal.invariant-loop-row
invariant-loop-row l = l.links.items ≡ all_links (take l.row-index l.row-items)
