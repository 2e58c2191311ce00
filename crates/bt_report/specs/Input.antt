-- What the files tell before and after a call.
use Rattle.std.specs.Prelude.{ℕ, List, Option}
use Rattle.bt_outside.specs.Told.{Rose}

-- What the files tell at the start of a call: the bytes of each name; and how often they had failed at its start and
-- at its end.
pub record Input : Type 0 where
  pub told : List ℕ → Option (List ℕ)
  pub faults_before : ℕ
  pub faults_after : ℕ

-- a file could not be read in the call: the count of faults rose, or stands at its last value
abbrev pub FilesFailed : Input → Type 0
FilesFailed input = Rose input.faults_before input.faults_after
