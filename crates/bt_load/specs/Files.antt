-- What may come of a file.
use Rattle.std.specs.Prelude.{◌≡◌, ℕ, ◌≤◌, ◌⊎◌, List, [], ◌∷◌, length, codes, Option, Some, Result, Err, Ok}
use Rattle.bt_outside.specs.Told.{Gives, IsLonger}
use Rattle.bt_report.specs.declared.status.TheConstants.{READ_FAILED, TOO_LONG}
use Rattle.bt_report.specs.Outcome.{Outcome, Says}

-- A kind of file: how many bytes it may have; what they spell, or their first fault; and the words and the status that name a fault.
pub record Kind (Value Fault : Type 0) : Type 0 where
  pub most : ℕ
  pub reading : List ℕ → Result Value Fault
  pub fault_words : Fault → List (List ℕ)
  pub fault_status : ℕ

-- the file of that name is told
abbrev pub IsTold : (List ℕ → Option (List ℕ)) → List ℕ → Type 0
IsTold told name = (held : List ℕ) × (told name ≡ Some held)

-- the bytes of a file that was read, of at most so many: those told, where they are told
abbrev pub IsContent : ℕ → (List ℕ → Option (List ℕ)) → List ℕ → List ℕ → Type 0
IsContent most told name bytes = Gives (told name) bytes × (length bytes ≤ most)

-- the file spells this value
abbrev pub IsLoaded : {Value Fault : Type 0} → Kind Value Fault → (List ℕ → Option (List ℕ)) → List ℕ → Value → Type 0
IsLoaded kind told name value = (bytes : List ℕ) × IsContent kind.most told name bytes × (kind.reading bytes ≡ Ok value)

-- the file spells some value
abbrev pub IsOfItsKind : {Value Fault : Type 0} → Kind Value Fault → (List ℕ → Option (List ℕ)) → List ℕ → Type 0
IsOfItsKind {Value} kind told name = (value : Value) × IsLoaded kind told name value

-- the file is told, in no more bytes than one of its kind may have, and spells this value
abbrev pub Spells : {Value Fault : Type 0} → Kind Value Fault → (List ℕ → Option (List ℕ)) → List ℕ → Value → Type 0
Spells kind told name value = (held : List ℕ) × (told name ≡ Some held) × (length held ≤ kind.most) × (kind.reading held ≡ Ok value)

-- the file is told, in no more bytes than one of its kind may have, and spells some value
abbrev pub IsSpelled : {Value Fault : Type 0} → Kind Value Fault → (List ℕ → Option (List ℕ)) → List ℕ → Type 0
IsSpelled {Value} kind told name = (value : Value) × Spells kind told name value

-- the file could not be read, or has more than so many bytes
abbrev pub CannotRead : ℕ → (List ℕ → Option (List ℕ)) → Type 0 → List ℕ → Outcome → Type 0
CannotRead most told failed name outcome =
    (failed × Says (codes "fault" ∷ codes "read" ∷ name ∷ []) READ_FAILED outcome)
    ⊎ (IsLonger (told name) most × Says (codes "fault" ∷ codes "too" ∷ codes "long" ∷ name ∷ []) TOO_LONG outcome)

-- the file spells no value, and its first fault is named
abbrev pub Misspells : {Value Fault : Type 0} → Kind Value Fault → (List ℕ → Option (List ℕ)) → List ℕ → Outcome → Type 0
Misspells {Value} {Fault} kind told name outcome =
    (bytes : List ℕ) × (fault : Fault) × IsContent kind.most told name bytes × (kind.reading bytes ≡ Err fault) × Says (kind.fault_words fault) kind.fault_status outcome

-- no value comes of the file
abbrev pub StopsAtLoad : {Value Fault : Type 0} → Kind Value Fault → (List ℕ → Option (List ℕ)) → Type 0 → List ℕ → Outcome → Type 0
StopsAtLoad kind told failed name outcome = CannotRead kind.most told failed name outcome ⊎ Misspells kind told name outcome
