use Rattle.std.proofs.Common.{◌≡◌, take}
use Rattle.bt_history.specs.Changes.{orders}
use Rattle.bt_centre.proofs.open.orders_of.Given as goal

-- the orders so far
abbrev pub invariant-loop-place : goal.invariant-loop-place
invariant-loop-place g l = record { so_far : l.all.items ≡ take l.place (orders l.book.state.changes) }
