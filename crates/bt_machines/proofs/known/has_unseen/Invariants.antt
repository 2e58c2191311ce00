-- none of the orders so far
use Rattle.std.proofs.Common.{◌≡◌, false, take}
use Rattle.std.specs.List.{list_any}
use Rattle.bt_machines.specs.Known.{is_unseen}
use Rattle.bt_machines.proofs.known.has_unseen.Given as goal

abbrev pub invariant-loop-order : goal.invariant-loop-order
invariant-loop-order l = list_any (is_unseen l.status l.mark.0) (take l.order-index l.orders) ≡ false
