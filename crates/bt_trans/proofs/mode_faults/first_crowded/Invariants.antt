use Rattle.std.proofs.Common.{◌≡◌, ◌≤◌, length, take, All}
use Rattle.bt_trans.specs.Part.{connections}
use Rattle.bt_trans.proofs.mode_faults.first_crowded.Given as goal

-- the modes so far have no more connections
abbrev pub invariant-loop-place : goal.invariant-loop-place
invariant-loop-place l = record {
  few : length l.mode-items ≤ 2147483648;
  same : l.mode-items ≡ l.modes;
  earlier : All (λ m. connections m.perm ≤ l.k) (take l.place l.modes);
}
