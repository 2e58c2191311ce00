use Rattle.std.proofs.Common.{◌<◌, ◌≤◌, length, take, get_or, All}
use Rattle.bt_demand.specs.Plan.{IsHeld}
use Rattle.bt_demand.specs.Turn.{IsTurn}
use Rattle.bt_demand.proofs.LatestEnds.{no_burst}
use Rattle.bt_demand.proofs.holding.first_unheld.Given as goal

-- the bursts so far are held, and the walk stands at a mode that begins no later than the next one
abbrev pub invariant-loop-place : goal.invariant-loop-place
invariant-loop-place l = record {
  stands : IsTurn l.modes l.turn;
  begun : l.place < length l.bursts → l.turn.begin ≤ (get_or l.bursts l.place no_burst).start;
  held : All (IsHeld l.net l.modes) (take l.place l.bursts);
}
