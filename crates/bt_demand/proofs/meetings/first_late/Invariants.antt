use Rattle.std.proofs.Common.{take}
use Rattle.bt_demand.proofs.LatestEnds.{IsWalked}
use Rattle.bt_demand.proofs.meetings.first_late.Given as goal

-- the bursts so far are apart, and these are their ends
abbrev pub invariant-loop-place : goal.invariant-loop-place
invariant-loop-place l = IsWalked l.net (take l.place l.bursts) l.up_ends l.down_ends
