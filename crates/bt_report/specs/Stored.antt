-- What a store tells before and after a call.
use Rattle.std.specs.Prelude.{◌≡◌, ℕ, List, Option}
use Rattle.bt_outside.specs.Told.{Rose}

-- the bytes that a store tells at the start and at the end of a call, and how often it had failed
pub record Stored : Type 0 where
  pub before : Option (List ℕ)
  pub after : Option (List ℕ)
  pub faults_before : ℕ
  pub faults_after : ℕ

-- the store tells what it told, and did not fail
pub record IsAsGiven (stored : Stored) : Type 0 where
  pub bytes : stored.after ≡ stored.before
  pub faults : stored.faults_after ≡ stored.faults_before

-- the store did not fail in the call: its count of faults neither rose nor stands at its last value
abbrev pub IsSteady : Stored → Type 0
IsSteady stored = ¬ (Rose stored.faults_before stored.faults_after)
