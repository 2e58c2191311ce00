use Rattle.std.proofs.Common.{◌≡◌, take}
use Rattle.bt_history.specs.Changes.{plans}
use Rattle.bt_centre.proofs.open.plans_of.Given as goal

-- the plans so far
abbrev pub invariant-loop-place : goal.invariant-loop-place
invariant-loop-place g l = record { so_far : l.all.items ≡ take l.place (plans l.book.state.changes) }
