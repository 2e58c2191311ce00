use Rattle.std.proofs.Common.{◌≡◌, ◌+◌, ◌*◌, ◌<◌, ◌≤◌, ℕ, length, get_or}
use Rattle.bt_matrix.specs.Good.{slots_in}
use Rattle.bt_demand.proofs.shortages.add_mode.Given as goal

-- the connections from the beams so far have got their slots, and the others are as they were
abbrev pub invariant-loop-up : goal.invariant-loop-up
invariant-loop-up l = record {
  wide : length l.slots ≡ 1024;
  added : (i j : ℕ) → i < l.up → j < 32 → get_or l.slots (i * 32 + j) 0 ≡ get_or l.fn.slots (i * 32 + j) 0 + slots_in i j l.mode;
  rest : (k : ℕ) → l.up * 32 ≤ k → get_or l.slots k 0 ≡ get_or l.fn.slots k 0;
  small : (k : ℕ) → get_or l.slots k 0 ≤ get_or l.fn.slots k 0 + l.duration;
}
