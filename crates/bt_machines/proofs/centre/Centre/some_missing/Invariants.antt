-- none of the terminals so far
use Rattle.std.proofs.Common.{◌≡◌, ℕ, ◌<◌, false}
use Rattle.bt_machines.specs.Centre.{is_missing}
use Rattle.bt_machines.proofs.centre.Centre.some_missing.Given as goal

abbrev pub invariant-loop-number : goal.invariant-loop-number
invariant-loop-number l = (k : ℕ) → k < l.number → is_missing l.self (record { 0 = k }) ≡ false
