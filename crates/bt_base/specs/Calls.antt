-- The calls on an object in memory: which of them fail, and what is counted.
use Rattle.std.specs.Prelude.{◌≡◌, ℕ, ◌+◌, ◌-◌, ◌^◌, ◌==◌, min, List, Option, Result, IsErrOf, find}
use Rattle.bt_base.specs.declared.fail.Fail.{Fail}

-- the calls that are to fail, how many were made, and how often one failed
pub record Calls : Type 0 where
  pub fails : List Fail
  pub made : ℕ
  pub faults : ℕ

-- the entry for the call of that number, the first of several; none where that call is not to fail
abbrev pub fail_at : List Fail → ℕ → Option Fail
fail_at fails number = find (λ fail. fail.call == number) fails

-- a count one higher, which stands still at the end of its type
abbrev pub raised : ℕ → ℕ
raised count = min (count + 1) (2 ^ 64 - 1)

-- One call more was made, and one more failed where the answer is `fault`. Which calls are to fail stays.
pub record Counts {T E : Type 0} (fault : E) (before now : Calls) (result : Result T E) : Type 0 where
  pub fails : now.fails ≡ before.fails
  pub made : now.made ≡ raised before.made
  pub failed : IsErrOf result fault → now.faults ≡ raised before.faults
  pub not_failed : (IsErrOf result fault → ⊥) → now.faults ≡ before.faults
