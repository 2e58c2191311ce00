use Rattle.std.proofs.Common.{◌≡◌, ℕ, ◌<◌, length, get_or}
use Rattle.bt_modes.proofs.perm.Perm.identity.Given as goal

-- the places so far have their own numbers
abbrev pub invariant-loop-up : goal.invariant-loop-up
invariant-loop-up l = record {
  long : length l.columns ≡ 32;
  own : (k : ℕ) → k < l.up → get_or l.columns k 0 ≡ k;
}
