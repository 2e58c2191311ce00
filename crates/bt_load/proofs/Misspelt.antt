-- A stop that names the first fault of a file's bytes is one that a load may make.
use Rattle.std.proofs.Common.{◌≡◌, ℕ, List, Option, Ok, Err, inr, refl, ap}
use Rattle.bt_frame.specs.declared.limits.TheConstants.{MOST_FILE_BYTES}
use Rattle.bt_net.specs.Network.{Net}
use Rattle.bt_net.specs.Walk.{Fails}
use Rattle.bt_net.specs.Reading.{network_in}
use Rattle.bt_net.specs.declared.fault.NetFault.{NetFault}
use Rattle.bt_net.specs.declared.fault.NetFault.TheVariants.{N1, N2, N3, N4, N5, N6, OutOfMemory}
use Rattle.bt_text.specs.Reading.{IsFaultOf, LineReading}
use Rattle.bt_text.specs.declared.fault.LineFault.{LineFault}
use Rattle.bt_text.specs.declared.fault.LineFault.TheVariants as line_fault
use Rattle.bt_plan.specs.MatrixText.{matrix_reading}
use Rattle.bt_plan.specs.TrafficText.{demand_of}
use Rattle.bt_plan.specs.PlanText.{plan_reading}
use Rattle.bt_plan.specs.ScheduleText.{schedule_of}
use Rattle.bt_plan.specs.declared.text_fault.TextCode.{TextCode}
use Rattle.bt_script.specs.declared.fault.ScriptCode.{ScriptCode}
use Rattle.bt_script.specs.Codes as script_code
use Rattle.bt_script.specs.ScriptText.{script_of}
use Rattle.bt_timing.specs.declared.fault.TimingCode.{TimingCode}
use Rattle.bt_timing.specs.DelayText.{times_of}
use Rattle.bt_run_lines.specs.declared.output.OutputCode.{OutputCode}
use Rattle.bt_run_lines.specs.Lines.{gone_over, output_of}
use Rattle.bt_report.specs.declared.report.Stop.{Stop}
use Rattle.bt_report.specs.declared.report.Stop.TheVariants as stop
use Rattle.bt_report.specs.Report.{StopIs}
use Rattle.bt_load.specs.Files.{IsContent, IsOfItsKind, StopsAtLoad}
use Rattle.bt_load.specs.Kinds.{text_file, delay_file, demand_file, matrix_file, network_file, output_file, plan_file, schedule_file, script_file}
use Rattle.bt_load.specs.Lines.{code_name, output_code_name, timing_code_name}
use Rattle.bt_load.specs.Stops.{NamesLineFault, NamesNetworkFault}

-- ---- texts

text_misspelt : {Code Value : Type 0} (of : Code → List ℕ) (reading : List ℕ → LineReading Code Value) (told : List ℕ → Option (List ℕ)) (failed : Type 0) (name bytes : List ℕ) (fault : LineFault Code) (why : Stop)
    → IsContent MOST_FILE_BYTES told name bytes → IsFaultOf (reading bytes) fault → StopIs (NamesLineFault of fault) why → StopIs (StopsAtLoad (text_file of reading) told failed name) why
text_misspelt of reading told failed name bytes fault stop.OutOfMemory content is names = tt
text_misspelt of reading told failed name bytes (line_fault.At code line) (stop.Early report) content is names = inr (bytes, (code, line), content, is, names)
text_misspelt of reading told failed name bytes line_fault.OutOfMemory (stop.Early report) content is names = absurd names

pub matrix_misspelt : (told : List ℕ → Option (List ℕ)) (failed : Type 0) (name bytes : List ℕ) (fault : LineFault TextCode) (why : Stop)
    → IsContent MOST_FILE_BYTES told name bytes → IsFaultOf (matrix_reading bytes) fault → StopIs (NamesLineFault code_name fault) why → StopIs (StopsAtLoad matrix_file told failed name) why
matrix_misspelt = text_misspelt code_name matrix_reading

pub schedule_misspelt : (size : ℕ) (told : List ℕ → Option (List ℕ)) (failed : Type 0) (name bytes : List ℕ) (fault : LineFault TextCode) (why : Stop)
    → IsContent MOST_FILE_BYTES told name bytes → IsFaultOf (schedule_of size bytes) fault → StopIs (NamesLineFault code_name fault) why → StopIs (StopsAtLoad (schedule_file size) told failed name) why
schedule_misspelt size = text_misspelt code_name (schedule_of size)

pub demand_misspelt : (net : Net) (told : List ℕ → Option (List ℕ)) (failed : Type 0) (name bytes : List ℕ) (fault : LineFault TextCode) (why : Stop)
    → IsContent MOST_FILE_BYTES told name bytes → IsFaultOf (demand_of net bytes) fault → StopIs (NamesLineFault code_name fault) why → StopIs (StopsAtLoad (demand_file net) told failed name) why
demand_misspelt net = text_misspelt code_name (demand_of net)

pub plan_misspelt : (net : Net) (told : List ℕ → Option (List ℕ)) (failed : Type 0) (name bytes : List ℕ) (fault : LineFault TextCode) (why : Stop)
    → IsContent MOST_FILE_BYTES told name bytes → IsFaultOf (plan_reading net bytes) fault → StopIs (NamesLineFault code_name fault) why → StopIs (StopsAtLoad (plan_file net) told failed name) why
plan_misspelt net = text_misspelt code_name (plan_reading net)

pub script_misspelt : (net : Net) (told : List ℕ → Option (List ℕ)) (failed : Type 0) (name bytes : List ℕ) (fault : LineFault ScriptCode) (why : Stop)
    → IsContent MOST_FILE_BYTES told name bytes → IsFaultOf (script_of net bytes) fault → StopIs (NamesLineFault script_code.code_name fault) why → StopIs (StopsAtLoad (script_file net) told failed name) why
script_misspelt net = text_misspelt script_code.code_name (script_of net)

pub delays_misspelt : (net : Net) (told : List ℕ → Option (List ℕ)) (failed : Type 0) (name bytes : List ℕ) (fault : LineFault TimingCode) (why : Stop)
    → IsContent MOST_FILE_BYTES told name bytes → IsFaultOf (times_of net bytes) fault → StopIs (NamesLineFault timing_code_name fault) why → StopIs (StopsAtLoad (delay_file net) told failed name) why
delays_misspelt net = text_misspelt timing_code_name (times_of net)

-- ---- the output of a run, which is gone over

-- a reading whose value is left out has the same fault
fault_kept : {A : Type 0} (reading : LineReading OutputCode A) (fault : LineFault OutputCode) → IsFaultOf (gone_over reading) fault → IsFaultOf reading fault
fault_kept (Ok value) (line_fault.At code line) is = cc
fault_kept (Err fault) (line_fault.At code line) is = let same : fault ≡ (code, line) = cc in ap Err same
fault_kept (Ok value) line_fault.OutOfMemory is = tt
fault_kept (Err fault) line_fault.OutOfMemory is = tt

-- and where it has none, a value
value_there : {A : Type 0} (reading : LineReading OutputCode A) → gone_over reading ≡ Ok tt → (value : A) × (reading ≡ Ok value)
value_there (Ok value) is = (value, refl)
value_there (Err fault) is = cc

-- an output that has no fault is one
pub is_output : (net : Net) (told : List ℕ → Option (List ℕ)) (name bytes : List ℕ) → IsContent MOST_FILE_BYTES told name bytes → gone_over (output_of net bytes) ≡ Ok tt → IsOfItsKind (output_file net) told name
is_output net told name bytes content is =
    let there = value_there (output_of net bytes) is in
    (there.0, (bytes, content, there.1))

pub output_misspelt : (net : Net) (told : List ℕ → Option (List ℕ)) (failed : Type 0) (name bytes : List ℕ) (fault : LineFault OutputCode) (why : Stop)
    → IsContent MOST_FILE_BYTES told name bytes → IsFaultOf (gone_over (output_of net bytes)) fault → StopIs (NamesLineFault output_code_name fault) why → StopIs (StopsAtLoad (output_file net) told failed name) why
output_misspelt net told failed name bytes fault why content is names =
    text_misspelt output_code_name (output_of net) told failed name bytes fault why content (fault_kept (output_of net bytes) fault is) names

-- ---- networks

pub network_misspelt : (told : List ℕ → Option (List ℕ)) (failed : Type 0) (name bytes : List ℕ) (fault : NetFault) (why : Stop) → IsContent MOST_FILE_BYTES told name bytes → Fails fault (network_in bytes) → StopIs (NamesNetworkFault fault) why → StopIs (StopsAtLoad network_file told failed name) why
network_misspelt told failed name bytes fault stop.OutOfMemory content is names = tt
network_misspelt told failed name bytes OutOfMemory (stop.Early report) content is names = absurd names
network_misspelt told failed name bytes N1 (stop.Early report) content is names = inr (bytes, N1, content, is, names)
network_misspelt told failed name bytes (N2 path) (stop.Early report) content is names = inr (bytes, N2 path, content, is, names)
network_misspelt told failed name bytes (N3 path) (stop.Early report) content is names = inr (bytes, N3 path, content, is, names)
network_misspelt told failed name bytes (N4 path) (stop.Early report) content is names = inr (bytes, N4 path, content, is, names)
network_misspelt told failed name bytes (N5 path) (stop.Early report) content is names = inr (bytes, N5 path, content, is, names)
network_misspelt told failed name bytes (N6 path) (stop.Early report) content is names = inr (bytes, N6 path, content, is, names)
