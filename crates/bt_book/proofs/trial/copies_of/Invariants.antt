use Rattle.std.proofs.Common.{◌≡◌, take}
use Rattle.bt_book.proofs.trial.copies_of.Given as goal

-- the plans so far
abbrev pub invariant-loop-plan : goal.invariant-loop-plan
invariant-loop-plan l = l.copies.items ≡ take l.plan-index l.plans
