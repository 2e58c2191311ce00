-- What always holds of the delays of the lines so far. Only bodies use it.
use Rattle.std.specs.Prelude.{◌≡◌, ℕ, Option, Some, None, true, is_some, All}
use Rattle.std.specs.List.{list_all}
use Rattle.bt_timing.specs.DelayText.{SoFar}
use Rattle.bt_timing.specs.Times.{IsDelay}

-- a delay that is known is one that a terminal may have
abbrev pub IsKnownDelay : Option ℕ → Type 0
IsKnownDelay None = Unit {0}
IsKnownDelay (Some delay) = IsDelay delay

-- Delays are within the limit; behind a change all are known, so that the next one needs not look.
pub record AreSoFar (so_far : SoFar) : Type 0 where
  pub each : All IsKnownDelay so_far.known
  pub complete : so_far.changing ≡ true → list_all is_some so_far.known ≡ true
