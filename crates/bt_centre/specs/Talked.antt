-- What a talk tells before and after a call, and how a piece is said in it.
use Rattle.std.specs.Prelude.{◌≡◌, ℕ, ◌⊎◌, ◌++◌, List, [], ◌∷◌, Option}
use Rattle.bt_outside.specs.Told.{GainsPrefix, gained}
use Rattle.bt_outside.specs.Talk.{Shown, Turn, Heard, Said, said, took}
use Rattle.bt_report.specs.declared.status.TheConstants.{OUT_OF_MEMORY, WRITE_FAILED}
use Rattle.bt_report.specs.Output.{Output, HasFailed}

-- the bytes that were to come in a talk at the start of a call; how often a line could not be heard at its start and at its end; what
-- its output told; its turns; what its clock was to tell at its start and at its end; and what the store told at its end
pub record Talked : Type 0 where
  pub coming : Option (List ℕ)
  pub unheard_before : ℕ
  pub unheard_after : ℕ
  pub output : Output
  pub turns_before : Option (List Turn)
  pub turns_after : Option (List Turn)
  pub moments_before : Option (List (List ℕ))
  pub moments_after : Option (List (List ℕ))
  pub store : Shown

-- all that is said in these turns
abbrev pub spoken : List Turn → List ℕ
spoken [] = []
spoken (Heard line ∷ turns) = spoken turns
spoken (Said piece shown ∷ turns) = piece ++ spoken turns

-- the same talk, from the moment on at which these turns were taken
abbrev pub behind : Talked → List Turn → Talked
behind talk turns = record {
  coming = talk.coming;
  unheard_before = talk.unheard_before;
  unheard_after = talk.unheard_after;
  output = record {
    before = gained talk.output.before (spoken turns);
    after = talk.output.after;
    faults_before = talk.output.faults_before;
    faults_after = talk.output.faults_after;
  };
  turns_before = took talk.turns_before turns;
  turns_after = talk.turns_after;
  moments_before = talk.moments_before;
  moments_after = talk.moments_after;
  store = talk.store;
}

-- the piece was said while the store told what it tells at the end, and nothing else was heard or said
pub record SaysAll (talk : Talked) (piece : List ℕ) : Type 0 where
  pub wrote : talk.output.after ≡ gained talk.output.before piece
  pub turn : talk.turns_after ≡ took talk.turns_before (said piece talk.store)

-- the sink failed over the piece: a first part of it was written, and no turn was taken
pub record SaysPart (talk : Talked) (piece : List ℕ) : Type 0 where
  pub failed : HasFailed talk.output
  pub wrote : GainsPrefix talk.output.before piece talk.output.after
  pub turn : talk.turns_after ≡ talk.turns_before

-- the piece was said, and the status is this one; or the sink failed over it, and that is said
abbrev pub Says : Talked → List ℕ → ℕ → ℕ → Type 0
Says talk piece wanted status = (SaysAll talk piece × (status ≡ wanted)) ⊎ (SaysPart talk piece × (status ≡ WRITE_FAILED))

-- memory ran out, and nothing was heard or said
abbrev pub SaysNothing : Talked → ℕ → Type 0
SaysNothing talk status = (status ≡ OUT_OF_MEMORY) × (talk.turns_after ≡ talk.turns_before)

-- memory ran out, or the piece was said with this status
abbrev pub SaysOrNot : Talked → List ℕ → ℕ → ℕ → Type 0
SaysOrNot talk piece wanted status = SaysNothing talk status ⊎ Says talk piece wanted status
