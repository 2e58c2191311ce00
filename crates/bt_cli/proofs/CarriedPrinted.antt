-- What a demand comes to on another network, as the report of a look.
use Rattle.std.proofs.Common.{ℕ, ◌≤◌, inl, inr, List, length, Result, Ok, Err}
use Rattle.bt_frame.specs.declared.limits.TheConstants.{MOST_JOURNAL_BYTES}
use Rattle.bt_net.specs.Network.{Net, IsSound}
use Rattle.bt_demand.specs.declared.demand.Link.{Link}
use Rattle.bt_export.specs.declared.carry.Carried.{Carried}
use Rattle.bt_export.specs.declared.carry.Carried.TheVariants as comes
use Rattle.bt_export.specs.Carry.{TellsCarried}
use Rattle.bt_history.specs.declared.fault.RecoverFault.{RecoverFault}
use Rattle.bt_look.specs.Look.{IsLookFault}
use Rattle.bt_report.specs.declared.report.Report.{Report}
use Rattle.bt_report.specs.declared.report.Stop.{Stop}
use Rattle.bt_report.specs.declared.report.Stop.TheVariants.{Early, OutOfMemory}
use Rattle.bt_report.specs.Printing.{CameTo}
use Rattle.bt_report.specs.Report.{StopIs}
use Rattle.bt_cli.specs.Carry.{PrintsCarried, PrintsCarry}
use Rattle.bt_cli.specs.Fitting.{NamesOverload}
use Rattle.bt_cli.specs.Replay.{NamesRecoverFault}

-- the heaviest line of a demand that does not fit is named
pub overload_printed : (new : Net) (links : List Link) (stop : Stop) → StopIs (NamesOverload new links) stop → StopIs (PrintsCarried new (comes.Demand links)) stop
overload_printed new links (Early report) names = inr names
overload_printed new links OutOfMemory names = tt

-- what the demand that the bytes tell comes to is printed
pub carried_came : (net : Net) (bytes : List ℕ) (new : Net) (carried : Carried) (result : Result Report Stop) → IsSound net → IsSound new → length bytes ≤ MOST_JOURNAL_BYTES
    → TellsCarried net bytes new carried → CameTo (PrintsCarried new carried) result → CameTo (PrintsCarry net bytes new) result
carried_came net bytes new carried (Ok report) sound also short tells came =
    record { sound = also; looks = record { sound = sound; short = short; comes = inl (carried, tells, came) } }
carried_came net bytes new carried (Err (Early report)) sound also short tells came =
    record { sound = also; looks = record { sound = sound; short = short; comes = inl (carried, tells, came) } }
carried_came net bytes new carried (Err OutOfMemory) sound also short tells came = tt

-- or the first line at fault is named
pub fault_came : (net : Net) (bytes : List ℕ) (new : Net) (fault : RecoverFault) (stop : Stop) → IsSound net → IsSound new → length bytes ≤ MOST_JOURNAL_BYTES → IsLookFault net bytes fault
    → StopIs (NamesRecoverFault fault) stop → StopIs (PrintsCarry net bytes new) stop
fault_came net bytes new fault (Early report) sound also short is names =
    record { sound = also; looks = record { sound = sound; short = short; comes = inr (fault, is, names) } }
fault_came net bytes new fault OutOfMemory sound also short is names = tt
