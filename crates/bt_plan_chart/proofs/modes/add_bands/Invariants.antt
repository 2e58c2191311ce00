use Rattle.std.proofs.Common.{◌≡◌, ◌++◌, ◌*◌, ◌≤◌, flat_map, take, length}
use Rattle.std.specs.List.{range_with_len}
use Rattle.bt_matrix.specs.Good.{total_duration}
use Rattle.bt_plan_chart.specs.Chart.{mode_parts_at}
use Rattle.bt_plan_chart.specs.Parts.{parts_text}
use Rattle.bt_plan_chart.proofs.modes.add_bands.Given as goal

-- the modes so far were added
abbrev pub invariant-loop-place : goal.invariant-loop-place
invariant-loop-place l = record {
  few : length l.modes ≤ 2147483648;
  added : l.out.items ≡ l.fn.out.items ++ parts_text (flat_map (mode_parts_at l.net l.scale l.modes) (range_with_len 0 l.place));
  begins : l.begin ≡ total_duration (take l.place l.modes);
  small : l.begin ≤ 4294967295 * l.place;
}
