-- the greatest number among the orders so far
use Rattle.std.proofs.Common.{◌≡◌, reverse, take}
use Rattle.bt_machines.specs.Last.{load_of}
use Rattle.bt_machines.proofs.last.load_among.Given as goal

abbrev pub invariant-loop-order : goal.invariant-loop-order
invariant-loop-order l = l.greatest ≡ load_of (reverse (take l.order-index l.orders)) l.edition
