-- What a sink tells before and after a call, and how a text is printed on it.
use Rattle.std.specs.Prelude.{◌≡◌, ℕ, ◌⊎◌, List, Option}
use Rattle.bt_outside.specs.Told.{gained, GainsPrefix, Rose}
use Rattle.bt_report.specs.declared.status.TheConstants.{OUT_OF_MEMORY, WRITE_FAILED}

-- the bytes that a sink told at the start and at the end of a call, and how often it had failed
pub record Output : Type 0 where
  pub before : Option (List ℕ)
  pub after : Option (List ℕ)
  pub faults_before : ℕ
  pub faults_after : ℕ

-- the sink failed in the call: its count of faults rose, or stands at its last value
abbrev pub HasFailed : Output → Type 0
HasFailed output = Rose output.faults_before output.faults_after

-- the text was written whole, and the status is this one; or the sink failed, a first part of it was written, and that is said
abbrev pub Prints : Output → List ℕ → ℕ → ℕ → Type 0
Prints output text wanted status =
    ((output.after ≡ gained output.before text) × (status ≡ wanted))
    ⊎ (HasFailed output × GainsPrefix output.before text output.after × (status ≡ WRITE_FAILED))

-- memory ran out, or the text was printed with this status
abbrev pub PrintsOrNot : Output → List ℕ → ℕ → ℕ → Type 0
PrintsOrNot output text wanted status = (status ≡ OUT_OF_MEMORY) ⊎ Prints output text wanted status
