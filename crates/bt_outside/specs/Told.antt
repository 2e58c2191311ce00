-- What files, a sink and a store of records hold where it is told, and what a call may answer.
use Rattle.std.specs.Prelude.{◌≡◌, ℕ, ◌-◌, ◌^◌, ◌<◌, ◌≤◌, ◌⊎◌, List, ◌++◌, length, take, Option, Some, None, Result, IfSome, IsErrOf}
use Rattle.std.specs.Option.{ForSome}

-- what came back is what is held; nothing is said where that is not told
abbrev pub Gives : Option (List ℕ) → List ℕ → Type 0
Gives told bytes = IfSome told (λ held. bytes ≡ held)

-- more is held than so many bytes; nothing is said where that is not told
abbrev pub IsLonger : Option (List ℕ) → ℕ → Type 0
IsLonger told most = IfSome told (λ held. most < length held)

-- so many bytes are held; nothing is asked where that is not told
abbrev pub HasBytes : ℕ → Option (List ℕ) → Type 0
HasBytes kept told = ForSome told (λ held. kept ≤ length held)

-- what is held once a piece was added at its end
abbrev pub gained : Option (List ℕ) → List ℕ → Option (List ℕ)
gained None piece = None
gained (Some held) piece = Some (held ++ piece)

-- a first part of the piece was added at the end, maybe none of it
abbrev pub GainsPrefix : Option (List ℕ) → List ℕ → Option (List ℕ) → Type 0
GainsPrefix old piece new = (kept : ℕ) × (new ≡ gained old (take kept piece))

-- the first so many bytes of what is held
abbrev pub shortened : Option (List ℕ) → ℕ → Option (List ℕ)
shortened None kept = None
shortened (Some held) kept = Some (take kept held)

-- A count of faults rose between two moments, or stands at the end of its type.
abbrev pub Rose : ℕ → ℕ → Type 0
Rose before now = (before < now) ⊎ (2 ^ 64 - 1 ≤ now)

-- The count of faults never falls, and the answer `fault` comes only where it rose.
pub record HasCause {T E : Type 0} (fault : E) (before now : ℕ) (result : Result T E) : Type 0 where
  pub later : before ≤ now
  pub failed : IsErrOf result fault → Rose before now
