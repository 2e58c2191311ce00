-- The terminals that transmit in a plan, as a set.
use Rattle.std.proofs.Common.{ℕ, ◌-◌, Bool, List, map, filter}
use Rattle.std.specs.List.{range_with_len}
use Rattle.bt_frame.specs.declared.numbers.TermNo.{TermNo}
use Rattle.bt_frame.specs.declared.numbers.TermSet.{TermSet}
use Rattle.bt_machines.specs.CentreSteps.{set_of}

-- so many terminals, from this number on
abbrev pub terminals_from : ℕ → ℕ → List TermNo
terminals_from first n = map (λ (k : ℕ). record { 0 = k }) (range_with_len first n)

abbrev pub those_from : (TermNo → Bool) → (n first : ℕ) → TermSet
those_from p n first = set_of (filter p (terminals_from first (n - first)))
