use Rattle.std.proofs.Common.{take, All}
use Rattle.bt_demand.specs.PlanVerdict.{Collide}
use Rattle.bt_demand.proofs.meetings.first_met.Given as goal

-- none of the bursts so far meets the other one
abbrev pub invariant-loop-place : goal.invariant-loop-place
invariant-loop-place l = All (λ a. ¬ (Collide l.net a l.burst)) (take l.place l.bursts)
