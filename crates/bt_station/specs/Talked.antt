-- What a talk tells before and after a call, and which turns were taken in it.
use Rattle.std.specs.Prelude.{◌≡◌, ℕ, ◌⊎◌, ◌++◌, List, [], ◌∷◌, Option}
use Rattle.bt_outside.specs.Told.{GainsPrefix, gained}
use Rattle.bt_outside.specs.Talk.{Shown, Turn, Heard, Said, took}
use Rattle.bt_report.specs.declared.status.TheConstants.{OUT_OF_MEMORY, WRITE_FAILED}
use Rattle.bt_report.specs.Outcome.{Outcome}
use Rattle.bt_report.specs.Output.{Output, HasFailed}

-- The bytes that were to come in a talk at the start of a call; how often a line could not be heard at its start and at its end; what
-- its output told; its turns; and what the store told, which a station hands on as it is.
pub record Talked : Type 0 where
  pub coming : Option (List ℕ)
  pub unheard_before : ℕ
  pub unheard_after : ℕ
  pub output : Output
  pub turns_before : Option (List Turn)
  pub turns_after : Option (List Turn)
  pub store : Shown

-- all that is said in these turns
abbrev pub spoken : List Turn → List ℕ
spoken [] = []
spoken (Heard line ∷ turns) = spoken turns
spoken (Said piece shown ∷ turns) = piece ++ spoken turns

-- these turns were taken, what they say was written, and nothing else was
pub record Took (talk : Talked) (turns : List Turn) : Type 0 where
  pub wrote : talk.output.after ≡ gained talk.output.before (spoken turns)
  pub turn : talk.turns_after ≡ took talk.turns_before turns

-- these turns were taken, and the output failed over the next piece: a first part of it was written
pub record TookPart (talk : Talked) (turns : List Turn) (piece : List ℕ) : Type 0 where
  pub failed : HasFailed talk.output
  pub wrote : GainsPrefix (gained talk.output.before (spoken turns)) piece talk.output.after
  pub turn : talk.turns_after ≡ took talk.turns_before turns

-- the piece was said, and the status is this one; or the output failed over it, and that is said
abbrev pub SaysAlone : Talked → List ℕ → ℕ → ℕ → Type 0
SaysAlone talk piece wanted status =
    (Took talk (Said piece talk.store ∷ []) × (status ≡ wanted)) ⊎ (TookPart talk [] piece × (status ≡ WRITE_FAILED))

-- no line was heard: memory ran out, and nothing was said; or one of these outcomes was said
abbrev pub EndsEarly : Talked → (Outcome → Type 0) → ℕ → Type 0
EndsEarly talk Outcomes status =
    ((status ≡ OUT_OF_MEMORY) × Took talk []) ⊎ ((outcome : Outcome) × Outcomes outcome × SaysAlone talk outcome.text outcome.status status)
