use Rattle.std.proofs.Common.{◌≡◌, reverse, take}
use Rattle.bt_apart.specs.Back.{newest_ordered, older_last}
use Rattle.bt_apart.proofs.back.older_last.Given as goal

-- the newest edition of the orders so far, and that of the last where it is older
abbrev pub invariant-loop-order : goal.invariant-loop-order
invariant-loop-order l = (l.newest.0 ≡ newest_ordered (reverse (take l.order-index l.orders))) × (l.older ≡ older_last (reverse (take l.order-index l.orders)))
