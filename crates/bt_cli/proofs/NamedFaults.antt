-- A recovery that failed is named by the line that is printed of it.
use Rattle.std.proofs.Common.{◌≢◌, ℕ, inl, inr, [], refl}
use Rattle.bt_history.specs.declared.fault.RecoverFault.{RecoverFault}
use Rattle.bt_history.specs.declared.fault.RecoverFault.TheVariants.{J1, J2, StoreFault, TooLong, OutOfMemory}
use Rattle.bt_report.specs.Output.{Output}
use Rattle.bt_centre.specs.RecoverFaults.{PrintsNamed, recover_line, recover_status, recover_words}
use Rattle.bt_report.specs.Outcome.{Outcome, PrintsOneOf, Says, text_alone}
use Rattle.bt_cli.specs.Replay.{NamesRecoverFault}

-- a fault that is none of memory is named by its line
pub named : (fault : RecoverFault) (outcome : Outcome) → fault ≢ OutOfMemory → Says (recover_words fault) (recover_status fault) outcome → NamesRecoverFault fault outcome
named (J1 number) outcome is says = says
named (J2 number) outcome is says = says
named StoreFault outcome is says = says
named TooLong outcome is says = says
named OutOfMemory outcome is says = absurd (is refl)

-- so what is printed of it is an outcome that names it
pub fault_printed : (output : Output) (fault : RecoverFault) (status : ℕ) → PrintsNamed output [] fault status → PrintsOneOf output (NamesRecoverFault fault) status
fault_printed output fault status (inl memory) = inl memory
fault_printed output fault status (inr (is, printed)) =
    let outcome : Outcome = text_alone (recover_line fault) (recover_status fault) in
    inr (outcome, named fault outcome is refl, printed)
