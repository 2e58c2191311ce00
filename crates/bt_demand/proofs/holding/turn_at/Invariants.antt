use Rattle.std.proofs.Common.{◌≡◌, ◌≤◌}
use Rattle.bt_demand.specs.Plan.{begin_of}
use Rattle.bt_demand.proofs.holding.turn_at.Given as goal

-- the next mode begins there, and not behind the slot
abbrev pub invariant-loop-place : goal.invariant-loop-place
invariant-loop-place l = record {
  begins : l.begin ≡ begin_of l.modes l.place;
  begun : l.begin ≤ l.slot;
}
