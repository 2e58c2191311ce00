use Rattle.bt_shared.specs.Passes.{IsSamePass}
use Rattle.bt_trials.proofs.line.add_many.Given as goal

-- it is the same pass
abbrev pub invariant-loop : goal.invariant-loop
invariant-loop g l = IsSamePass l.fn.pass.place l.pass.place
