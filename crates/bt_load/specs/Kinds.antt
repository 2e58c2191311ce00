-- The kinds of files that the program reads.
use Rattle.std.specs.Prelude.{ℕ, List, [], Ok}
use Rattle.bt_frame.specs.declared.limits.TheConstants.{MOST_FILE_BYTES, MOST_JOURNAL_BYTES}
use Rattle.bt_frame.specs.declared.schedule.Schedule.{Schedule}
use Rattle.bt_net.specs.Network.{Net}
use Rattle.bt_net.specs.Reading.{network_in}
use Rattle.bt_net.specs.declared.fault.NetFault.{NetFault}
use Rattle.bt_text.specs.Reading.{LineReading}
use Rattle.bt_plan.specs.Reading.{Fault}
use Rattle.bt_demand.specs.declared.demand.Link.{Link}
use Rattle.bt_demand.specs.declared.plan.Plan.{Plan}
use Rattle.bt_plan.specs.MatrixText.{matrix_reading}
use Rattle.bt_plan.specs.TrafficText.{demand_of}
use Rattle.bt_plan.specs.PlanText.{plan_reading}
use Rattle.bt_plan.specs.ScheduleText.{schedule_of}
use Rattle.bt_script.specs.Codes as script_code
use Rattle.bt_script.specs.ScriptText.{script_of}
use Rattle.bt_script.specs.declared.fault.ScriptCode.{ScriptCode}
use Rattle.bt_script.specs.declared.script.Script.{Script}
use Rattle.bt_timing.specs.declared.fault.TimingCode.{TimingCode}
use Rattle.bt_timing.specs.DelayText.{times_of}
use Rattle.bt_timing.specs.Times.{Times}
use Rattle.bt_run_lines.specs.declared.output.OutputCode.{OutputCode}
use Rattle.bt_run_lines.specs.declared.printed.Printed.{Printed}
use Rattle.bt_run_lines.specs.Lines.{output_of}
use Rattle.bt_report.specs.declared.status.TheConstants.{FAULTY_JOURNAL, FAULTY_TEXT, NO_NETWORK}
use Rattle.bt_report.specs.Faults.{line_fault_words}
use Rattle.bt_load.specs.Lines.{code_name, network_fault, output_code_name, timing_code_name}
use Rattle.bt_load.specs.Files.{Kind}

-- a text that is read line by line, by the names of its codes
abbrev pub text_file : {Code Value : Type 0} → (Code → List ℕ) → (List ℕ → LineReading Code Value) → Kind Value (Code × ℕ)
text_file name reading = record { most = MOST_FILE_BYTES; reading = reading; fault_words = λ fault. line_fault_words (name fault.0) fault.1; fault_status = FAULTY_TEXT }

-- a traffic matrix
abbrev pub matrix_file : Kind (List (List ℕ)) Fault
matrix_file = text_file code_name matrix_reading

-- a switching schedule for so many beams
abbrev pub schedule_file : ℕ → Kind Schedule Fault
schedule_file size = text_file code_name (schedule_of size)

-- a demand on a network
abbrev pub demand_file : Net → Kind (List Link) Fault
demand_file net = text_file code_name (demand_of net)

-- a burst time plan for a network
abbrev pub plan_file : Net → Kind Plan Fault
plan_file net = text_file code_name (plan_reading net)

-- a network
abbrev pub network_file : Kind Net NetFault
network_file = record { most = MOST_FILE_BYTES; reading = network_in; fault_words = network_fault; fault_status = NO_NETWORK }

-- a script for a network
abbrev pub script_file : Net → Kind Script (ScriptCode × ℕ)
script_file net = text_file script_code.code_name (script_of net)

-- the delays of a network's terminals
abbrev pub delay_file : Net → Kind Times (TimingCode × ℕ)
delay_file net = text_file timing_code_name (times_of net)

-- what a run on a network printed
abbrev pub output_file : Net → Kind (List Printed) (OutputCode × ℕ)
output_file net = text_file output_code_name (output_of net)

-- the bytes of a journal, which are read as they are, so that none is at fault
abbrev pub journal_file : Kind (List ℕ) ⊥
journal_file = record { most = MOST_JOURNAL_BYTES; reading = Ok; fault_words = λ never. []; fault_status = FAULTY_JOURNAL }
