use Rattle.std.proofs.Common.{◌≡◌, ◌+◌, ◌*◌, ◌<◌, ◌≤◌, ℕ, length, take, get_or, All}
use Rattle.bt_trans.specs.declared.part.PartMode.{PartMode}
use Rattle.bt_trans.specs.Part.{part_slots_of}
use Rattle.bt_trans.proofs.shortages.slots_by_connection.Given as goal

-- the slots of the modes so far, each of fewer than 2 ^ 32
abbrev pub invariant-loop-mode : goal.invariant-loop-mode
invariant-loop-mode l = record {
  few : length l.mode-items ≤ 2147483648;
  same : l.mode-items ≡ l.modes;
  so_far : (up down : ℕ) → down < 32 → All (λ (m : PartMode). up < length m.perm) l.modes → get_or l.slots (up * 32 + down) 0 ≡ part_slots_of (take l.mode-index l.modes) up down;
  small : (k : ℕ) → get_or l.slots k 0 ≤ 4294967295 * l.mode-index;
}
