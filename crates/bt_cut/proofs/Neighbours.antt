-- Bursts in order.
use Rattle.std.proofs.Common.{ℕ, zero, suc, ◌+◌, ◌<◌, List, length, get_or, AllPairs, add-one, inl, inr, arith}
use Rattle.std.proofs.lemmas.Bool.{cases_eq}
use Rattle.bt_demand.specs.declared.burst.Burst.{Burst}
use Rattle.bt_demand.specs.Burst.{IsNotAfter}
use Rattle.bt_demand.proofs.BurstOrder.{IsNotAfter-then}

-- where neighbours are in order all bursts are
pub all_in_order : (bursts : List Burst) → ((k : ℕ) (d : Burst) → k + 1 < length bursts → IsNotAfter (get_or bursts k d) (get_or bursts (k + 1) d)) → AllPairs IsNotAfter bursts
all_in_order bursts next i zero d less within = absurd (omega arith)
all_in_order bursts next i (suc j) d less within =
    let more : j + 1 < length bursts = omega arith in
    let step : IsNotAfter (get_or bursts j d) (get_or bursts (j + 1) d) = next j d more in
    let last = rw add-one at step in
    elim (cases_eq i j) [
      | inl same ↦ rw same last
      | inr other ↦ IsNotAfter-then (get_or bursts i d) (get_or bursts j d) (get_or bursts (suc j) d) (all_in_order bursts next i j d (omega arith) (omega arith)) last
    ]
