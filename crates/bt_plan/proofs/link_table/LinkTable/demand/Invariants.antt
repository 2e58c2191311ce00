-- the links of the places so far
use Rattle.std.proofs.Common.{◌≡◌, take}
use Rattle.bt_plan.specs.LinkTable.{links_from}
use Rattle.bt_plan.proofs.link_table.LinkTable.demand.Given as goal

abbrev pub invariant-loop-place : goal.invariant-loop-place
invariant-loop-place l = l.demand ≡ links_from 0 (take l.place l.self-inside.places.items)
