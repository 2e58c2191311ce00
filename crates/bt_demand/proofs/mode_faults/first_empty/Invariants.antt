use Rattle.std.proofs.Common.{◌≡◌, ◌<◌, ◌≤◌, length, take, All}
use Rattle.bt_demand.proofs.mode_faults.first_empty.Given as goal

-- the modes so far are held for a slot at least
abbrev pub invariant-loop-place : goal.invariant-loop-place
invariant-loop-place l = record {
  few : length l.mode-items ≤ 2147483648;
  same : l.mode-items ≡ l.modes;
  earlier : All (λ m. 0 < m.duration) (take l.place l.modes);
}
