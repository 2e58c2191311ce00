use Rattle.std.proofs.Common.{◌≡◌, ◌+◌, ◌*◌, ◌<◌, ◌≤◌, ℕ, length, take, get_or, All}
use Rattle.bt_frame.specs.declared.mode.Mode.{Mode}
use Rattle.bt_matrix.specs.Good.{slots_of}
use Rattle.bt_demand.proofs.shortages.slots_by_connection.Given as goal

-- the slots of the modes so far, each of fewer than 2 ^ 32
abbrev pub invariant-loop-mode : goal.invariant-loop-mode
invariant-loop-mode l = record {
  few : length l.mode-items ≤ 2147483648;
  same : l.mode-items ≡ l.modes;
  so_far : (up down : ℕ) → down < 32 → All (λ (m : Mode). up < length m.perm) l.modes → get_or l.slots (up * 32 + down) 0 ≡ slots_of (take l.mode-index l.modes) up down;
  small : (k : ℕ) → get_or l.slots k 0 ≤ 4294967295 * l.mode-index;
}
