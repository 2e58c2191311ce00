use Rattle.std.proofs.Common.{◌≡◌, reverse, take}
use Rattle.bt_site.specs.World.{greatest_due}
use Rattle.bt_site.proofs.due.greatest_due.Given as goal

-- the greatest of the orders so far
abbrev pub invariant-loop-order : goal.invariant-loop-order
invariant-loop-order l = l.greatest.0 ≡ greatest_due (reverse (take l.order-index l.orders))
