-- The promise of the whole program: what it prints and the status that it ends with, by the command that is asked for.
use Rattle.std.specs.Prelude.{ℕ, List, Option}
use Rattle.bt_report.specs.Faults.{SaysFaultyWords}
use Rattle.bt_report.specs.Input.{FilesFailed, Input}
use Rattle.bt_report.specs.Outcome.{Outcome, PrintsOneOf}
use Rattle.bt_report.specs.Output.{Output}
use Rattle.bt_report.specs.Stored.{Stored}
use Rattle.bt_load.specs.Choice.{AnyGood, Exactly}
use Rattle.bt_load.specs.Kinds.{matrix_file, network_file}
use Rattle.bt_load.specs.Loaders.{file, nothing}
use Rattle.bt_cli.specs.Capacity.{TellsCapacity}
use Rattle.bt_cli.specs.Carry.{PrintsCarry, carry_files}
use Rattle.bt_cli.specs.Check.{Judges, schedule_files}
use Rattle.bt_cli.specs.CheckPlan.{JudgesPlan, plan_files}
use Rattle.bt_cli.specs.Command.{Answer, AsksNone, Command, EndsAs, IsOneAs, NeedsAs, OneStoreAs, OverStore, ReportsAs, ServesAs, command, no_store}
use Rattle.bt_cli.specs.Edits.{PrintsEdits, edits_files}
use Rattle.bt_cli.specs.Fitting.{asked_files}
use Rattle.bt_cli.specs.Json.{PrintsJson, json_file}
use Rattle.bt_cli.specs.Looks.{PrintsLook, journal_files}
use Rattle.bt_cli.specs.Make.{PrintsSummary}
use Rattle.bt_cli.specs.Modes.{PrintsSchedule}
use Rattle.bt_cli.specs.Plans.{PrintsPlan}
use Rattle.bt_cli.specs.Replay.{HasReplayed, PrintsJournal}
use Rattle.bt_cli.specs.Request.{Request, Faulty, CheckModes, CheckPlan, PlanModes, PlanDemand, RunScript, ReplayJournal, PlanDrawn, TimeSends, PlanPart, TellCapacity, TellJournal, TellEdits, TellCarry, TellTraffic, TellJson}
use Rattle.bt_cli.specs.Run.{End, HasRun, PrintsRun, script_files}
use Rattle.bt_cli.specs.Table.{PrintsTraffic, table_files}
use Rattle.bt_cli.specs.Timing.{TellsTimes, delay_files}
use Rattle.bt_cli.specs.Trans.{PrintsPart, suited_file}

-- THE TABLE: what is loaded for a command; what finishes it with the value that is loaded; and whether one report is right, or any
-- good one.
abbrev pub command_of : Request → Command
command_of Faulty = command nothing (Answer (λ none. SaysFaultyWords)) Exactly
command_of (CheckModes matrix modes) = command (schedule_files matrix modes) (Answer (λ both. Judges both.0 both.1)) Exactly
command_of (CheckPlan net traffic plan) = command (plan_files net traffic plan) (Answer (λ both. JudgesPlan both.0.0 both.0.1 both.1)) Exactly
command_of (PlanModes matrix) = command (file matrix_file matrix) (Answer PrintsSchedule) AnyGood
command_of (PlanDemand net traffic) = command (asked_files net traffic) (Answer (λ asked. PrintsPlan asked.0 asked.1)) AnyGood
command_of (TimeSends net traffic plan delays) = command (delay_files net traffic plan delays) (Answer (λ all. TellsTimes all.0.0 all.0.1 all.1.0 all.1.1)) Exactly
command_of (PlanDrawn beams seed) = command nothing (Answer (λ none. PrintsSummary beams seed)) AnyGood
command_of (PlanPart transponders matrix) = command (suited_file transponders matrix) (Answer (PrintsPart transponders)) AnyGood
command_of (TellCapacity net traffic) = command (asked_files net traffic) (Answer (λ asked. TellsCapacity asked.0 asked.1)) Exactly
command_of (TellJournal net journal look) = command (journal_files net journal) (Answer (λ both. PrintsLook look both.0 both.1)) Exactly
command_of (TellEdits net journal traffic desk) = command (edits_files net journal traffic) (Answer (λ all. PrintsEdits desk all.0.0 all.0.1 all.1)) Exactly
command_of (TellCarry net journal new) = command (carry_files net journal new) (Answer (λ all. PrintsCarry all.0.0 all.0.1 all.1)) Exactly
command_of (TellTraffic net table) = command (table_files net table) (Answer (λ both. PrintsTraffic both.0 both.1)) Exactly
command_of (TellJson text) = command (file json_file text) (Answer PrintsJson) Exactly
command_of (RunScript net script _) = command (script_files net script) (OverStore (λ both. both.0) (λ both. HasRun both.0 both.1) (λ stored both. PrintsRun both.0 both.1 stored)) AnyGood
command_of (ReplayJournal net _) = command (file network_file net) (OverStore (λ network. network) HasReplayed PrintsJournal) Exactly

-- How the program ends, and with which store: the loads of the command stop, that is printed, and no run is begun; or they give a
-- value, and the command ends with it.
abbrev pub Ends : Input → Output → Stored → Request → End → Type 0
Ends input output stored request end = EndsAs (command_of request) input output stored end

-- what is asked asks for no store
abbrev pub AsksNoStore : Request → Type 0
AsksNoStore request = AsksNone (command_of request)

-- the outcomes of what is asked
abbrev pub Reports : (List ℕ → Option (List ℕ)) → Type 0 → Stored → Request → Outcome → Type 0
Reports told failed stored request = ReportsAs (command_of request) told failed stored

-- Memory ran out; or what is asked had one of its outcomes, without a store, and it was printed.
abbrev pub Reported : Input → Output → Request → ℕ → Type 0
Reported input output request status = PrintsOneOf output (Reports input.told (FilesFailed input) no_store request) status

-- the files that are asked for are told
abbrev pub AreTold : (List ℕ → Option (List ℕ)) → Request → Type 0
AreTold told request = NeedsAs (command_of request) told

-- the store that is asked for tells one thing in two calls, and fails in neither
abbrev pub AreOneStore : Request → Stored → Stored → Type 0
AreOneStore request one other = OneStoreAs (command_of request) one other

-- The same outcome; where a schedule or a plan is made or a script is run, any good one and any run may stand in the
-- other's place.
abbrev pub IsOneReport : Request → Outcome → Outcome → Type 0
IsOneReport request a b = IsOneAs (command_of request) a b

-- with which status what is asked ends where nothing is at fault and nothing fails
abbrev pub Serves : (List ℕ → Option (List ℕ)) → Stored → Request → ℕ → Type 0
Serves told stored request status = ServesAs (command_of request) told stored status
