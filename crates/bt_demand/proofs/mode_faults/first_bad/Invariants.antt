use Rattle.std.proofs.Common.{◌≡◌, ◌≤◌, length, take, All}
use Rattle.bt_matrix.specs.Good.{IsPermutation}
use Rattle.bt_demand.proofs.mode_faults.first_bad.Given as goal

-- the modes so far are permutations
abbrev pub invariant-loop-place : goal.invariant-loop-place
invariant-loop-place l = record {
  few : length l.mode-items ≤ 2147483648;
  same : l.mode-items ≡ l.modes;
  earlier : All (λ m. IsPermutation l.size m.perm) (take l.place l.modes);
}
