use Rattle.std.proofs.Common.{◌≡◌, ◌≤◌, length, take, All}
use Rattle.bt_trans.specs.Part.{IsPartSwitching}
use Rattle.bt_trans.proofs.mode_faults.first_bad.Given as goal

-- the modes so far are switchings
abbrev pub invariant-loop-place : goal.invariant-loop-place
invariant-loop-place l = record {
  few : length l.mode-items ≤ 2147483648;
  same : l.mode-items ≡ l.modes;
  earlier : All (λ m. IsPartSwitching l.size m.perm) (take l.place l.modes);
}
