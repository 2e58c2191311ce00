use Rattle.std.proofs.Common.{◌≡◌, take, flat_map}
use Rattle.bt_history.specs.Changes.{plans}
use Rattle.bt_look.specs.State.{plan_line}
use Rattle.bt_look.proofs.state.plans_of_book.Given as goal

-- the lines of the plans so far
abbrev pub invariant-loop-place : goal.invariant-loop-place
invariant-loop-place g l = l.text.items ≡ flat_map plan_line (take l.place (plans l.book.state.changes))
