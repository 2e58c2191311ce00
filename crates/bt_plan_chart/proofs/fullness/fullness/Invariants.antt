use Rattle.std.proofs.Common.{◌≡◌, ◌*◌, ◌<◌, ◌≤◌, ℕ, get_or, length, take}
use Rattle.bt_plan_chart.specs.Chart.{slots_in_lane}
use Rattle.bt_plan_chart.proofs.fullness.fullness.Given as goal

-- the slots of the bursts so far, each of fewer than 2 ^ 32
abbrev pub invariant-loop-burst : goal.invariant-loop-burst
invariant-loop-burst l = record {
  wide : length l.slots ≡ 32;
  so_far : (beam : ℕ) → beam < 32 → get_or l.slots beam 0 ≡ slots_in_lane l.net l.direction (take l.burst-index l.bursts) beam;
  small : (beam : ℕ) → beam < 32 → get_or l.slots beam 0 ≤ 4294967295 * l.burst-index;
}
