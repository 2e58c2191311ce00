use Rattle.std.proofs.Common.{◌≡◌, ◌*◌, ◌≤◌, length, take}
use Rattle.bt_matrix.specs.Good.{total_duration}
use Rattle.bt_demand.proofs.mode_faults.duration_sum.Given as goal

-- the slots of the modes so far, each of fewer than 2 ^ 32
abbrev pub invariant-loop-mode : goal.invariant-loop-mode
invariant-loop-mode l = record {
  few : length l.mode-items ≤ 2147483648;
  same : l.mode-items ≡ l.modes;
  so_far : l.sum ≡ total_duration (take l.mode-index l.modes);
  small : l.sum ≤ 4294967295 * l.mode-index;
}
