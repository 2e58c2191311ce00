use Rattle.bt_shared.specs.Passes.{IsSamePass}
use Rattle.bt_trials.proofs.book.add_many.Given as goal

-- it is the same pass
abbrev pub invariant-loop-number : goal.invariant-loop-number
invariant-loop-number g l = IsSamePass l.fn.pass.place l.pass.place
