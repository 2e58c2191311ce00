-- Which fault of a file's bytes a report names.
use Rattle.std.specs.Prelude.{ℕ, List}
use Rattle.bt_net.specs.declared.fault.NetFault.{NetFault}
use Rattle.bt_net.specs.declared.fault.NetFault.TheVariants as net_fault
use Rattle.bt_text.specs.declared.fault.LineFault.{LineFault}
use Rattle.bt_text.specs.declared.fault.LineFault.TheVariants as line_fault
use Rattle.bt_report.specs.declared.status.TheConstants.{FAULTY_TEXT, NO_NETWORK}
use Rattle.bt_report.specs.Faults.{line_fault_words}
use Rattle.bt_report.specs.Outcome.{Outcome, Says}
use Rattle.bt_load.specs.Lines.{network_fault}

-- the fault of a text is named, by the names of its codes; want of memory is no such fault
abbrev pub NamesLineFault : {Code : Type 0} → (Code → List ℕ) → LineFault Code → Outcome → Type 0
NamesLineFault name (line_fault.At code line) outcome = Says (line_fault_words (name code) line) FAULTY_TEXT outcome
NamesLineFault name line_fault.OutOfMemory outcome = ⊥

-- the fault of a network
abbrev pub NamesNetworkFault : NetFault → Outcome → Type 0
NamesNetworkFault net_fault.OutOfMemory outcome = ⊥
NamesNetworkFault fault outcome = Says (network_fault fault) NO_NETWORK outcome
