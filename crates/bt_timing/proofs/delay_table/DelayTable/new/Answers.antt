-- no delay is known
use Rattle.std.proofs.Common.{ℕ, false, List, Option, None, replicate, ap, ◌∙◌}
use Rattle.bt_timing.specs.DelayText.{SoFar}
use Rattle.bt_timing.proofs.KnownDelays.{nothing-AreSoFar}
use Rattle.bt_timing.proofs.delay_table.DelayTable.new.Goals as goal

pub invariant_of-result : goal.invariant_of-result
invariant_of-result c = nothing-AreSoFar c.terminal_count.result c.in_ok-delays.delays.items c.in_ok-delays.ensures

pub returns : goal.returns
returns c =
    let count = ap (λ (n : ℕ). let known : List (Option ℕ) = replicate n None in known) c.terminal_count.ensures.count in
    ap (λ (known : List (Option ℕ)). let so_far : SoFar = record { known = known; changing = false } in so_far) (c.in_ok-delays.ensures ∙ count)
