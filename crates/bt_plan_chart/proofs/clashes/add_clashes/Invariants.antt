use Rattle.std.proofs.Common.{◌≡◌, ◌++◌, ◌<◌, ℕ, flat_map, get_or, length, take}
use Rattle.std.specs.List.{range_with_len}
use Rattle.bt_plan_chart.specs.Chart.{clash_parts_at, latest_end}
use Rattle.bt_plan_chart.specs.Parts.{parts_text}
use Rattle.bt_plan_chart.proofs.clashes.add_clashes.Given as goal

-- the marks of the bursts so far were added, and their latest ends are known
abbrev pub invariant-loop-burst : goal.invariant-loop-burst
invariant-loop-burst l = record {
  wide : length l.latest ≡ 32;
  so_far : (beam : ℕ) → beam < 32 → get_or l.latest beam 0 ≡ latest_end l.net l.direction (take l.burst-index l.bursts) beam;
  added : l.out.items ≡ l.fn.out.items ++ parts_text (flat_map (clash_parts_at l.net l.scale l.direction l.bursts) (range_with_len 0 l.burst-index));
}
