-- places that ask for nothing have no links
use Rattle.std.proofs.Common.{ap, ◌∙◌, refl}
use Rattle.bt_plan.specs.LinkTable.{links_from}
use Rattle.bt_plan.proofs.LinkTables.{empty_table, empty-links}
use Rattle.bt_plan.proofs.link_table.LinkTable.new.Goals as goal

pub invariant_of-result : goal.invariant_of-result
invariant_of-result c = empty_table c.in_ok-places.places.items 4096 refl c.in_ok-places.ensures

pub returns : goal.returns
returns c = ap (links_from 0) c.in_ok-places.ensures ∙ empty-links 0 4096
