use Rattle.std.proofs.Common.{rules, ◌≡◌, ℕ, ◌+◌, ◌*◌, replicate, get_or, inl, inr, arith}
use Rattle.std.proofs.lemmas.Bool.{cases_lt}
use Rattle.std.proofs.lemmas.List.{get_or-replicate, get_or_past, length-replicate}
use Rattle.bt_demand.proofs.shortages.slots_by_connection.Goals as goal

-- a table of zeros has none but these
zeros : (n k : ℕ) → get_or {A = ℕ} (replicate n 0) k 0 ≡ 0
zeros n k = elim (cases_lt k n) [
  | inl below ↦ get_or-replicate {A = ℕ} n k 0 0 below
  | inr past ↦ get_or_past (replicate n 0) k 0 (omega (arith, length-replicate {A = ℕ} n 0))
]

-- no mode was looked at yet
pub loop-mode-init : goal.loop-mode-init
loop-mode-init c = record {
  few = search rules;
  same = search rules;
  so_far = λ up down small on_table. zeros 1024 (up * 32 + down);
  small = λ k. omega (arith, zeros 1024 k);
}
