-- The calls on a disk in memory: which of them fail, and what is counted.
use Rattle.std.specs.Prelude.{◌≡◌, ℕ, if◌then◌else◌, nat_lt, List, Option, Some, None, Result, IsErrOf}
use Rattle.bt_base.specs.declared.fail.Fail.{Fail}
use Rattle.bt_base.specs.Calls.{fail_at, raised}
use Rattle.bt_base.specs.declared.disk.DiskFault.{DiskFault}
use Rattle.bt_base.specs.declared.disk.DiskFault.TheVariants.{Failed}

-- the calls that are to fail one by one, the one from which on all do, how many were made, and how often one failed
pub record Calls : Type 0 where
  pub fails : List Fail
  pub stop : Option Fail
  pub made : ℕ
  pub faults : ℕ

-- the entry of the call of that number, where it is to fail
abbrev pub failing_at : List Fail → Option Fail → ℕ → Option Fail
failing_at fails None number = fail_at fails number
failing_at fails (Some stop) number = if nat_lt number stop.call then fail_at fails number else Some stop

-- the entry of the call that is next, where it is to fail
abbrev pub failing : Calls → Option Fail
failing calls = failing_at calls.fails calls.stop calls.made

-- a stop once a write has failed at it: the next ones keep nothing
abbrev pub spent : Option Fail → Option Fail
spent None = None
spent (Some stop) = Some (record stop { kept = 0 })

-- One call more was made. Where it failed, one more has failed, and the stop is this from now on; all else is as before.
pub record Counts {T : Type 0} (stop : Option Fail) (before now : Calls) (result : Result T DiskFault) : Type 0 where
  pub failed : IsErrOf result Failed → now ≡ record before { stop = stop; made = raised before.made; faults = raised before.faults }
  pub not_failed : (IsErrOf result Failed → ⊥) → now ≡ record before { made = raised before.made }
