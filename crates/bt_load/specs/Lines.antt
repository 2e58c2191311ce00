-- The codes of faults, and the words that name a fault of a network.
use Rattle.std.specs.Prelude.{ℕ, List, [], ◌∷◌, codes}
use Rattle.bt_net.specs.declared.fault.NetFault.{NetFault}
use Rattle.bt_net.specs.declared.fault.NetFault.TheVariants as net_fault
use Rattle.bt_net.specs.Fault.{path_text}
use Rattle.bt_timing.specs.declared.fault.TimingCode.{TimingCode}
use Rattle.bt_timing.specs.declared.fault.TimingCode.TheVariants.{G1, G2, G3, G4, G5}
use Rattle.bt_plan.specs.declared.text_fault.TextCode.{TextCode}
use Rattle.bt_plan.specs.declared.text_fault.TextCode.TheVariants.{X1, X2, M1, T1, T2, T3, T4, T5, P1, P2, P3}
use Rattle.bt_run_lines.specs.declared.output.OutputCode.{OutputCode}
use Rattle.bt_run_lines.specs.declared.output.OutputCode.TheVariants.{O1}

-- the code of a text's fault
abbrev pub code_name : TextCode → List ℕ
code_name X1 = codes "X1"
code_name X2 = codes "X2"
code_name M1 = codes "M1"
code_name T1 = codes "T1"
code_name T2 = codes "T2"
code_name T3 = codes "T3"
code_name T4 = codes "T4"
code_name T5 = codes "T5"
code_name P1 = codes "P1"
code_name P2 = codes "P2"
code_name P3 = codes "P3"

-- the words of a network's first fault, with its place
abbrev pub network_fault : NetFault → List (List ℕ)
network_fault net_fault.N1 = codes "fault" ∷ codes "N1" ∷ []
network_fault (net_fault.N2 path) = codes "fault" ∷ codes "N2" ∷ path_text path ∷ []
network_fault (net_fault.N3 path) = codes "fault" ∷ codes "N3" ∷ path_text path ∷ []
network_fault (net_fault.N4 path) = codes "fault" ∷ codes "N4" ∷ path_text path ∷ []
network_fault (net_fault.N5 path) = codes "fault" ∷ codes "N5" ∷ path_text path ∷ []
network_fault (net_fault.N6 path) = codes "fault" ∷ codes "N6" ∷ path_text path ∷ []
network_fault net_fault.OutOfMemory = codes "fault" ∷ []

-- the code of a delay file's fault
abbrev pub timing_code_name : TimingCode → List ℕ
timing_code_name G1 = codes "G1"
timing_code_name G2 = codes "G2"
timing_code_name G3 = codes "G3"
timing_code_name G4 = codes "G4"
timing_code_name G5 = codes "G5"

-- the code of the fault of a run's output
abbrev pub output_code_name : OutputCode → List ℕ
output_code_name O1 = codes "O1"
