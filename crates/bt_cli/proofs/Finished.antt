-- How a command ends, by its loads and what finishes it.
use Rattle.std.proofs.Common.{◌≡◌, ℕ, ◌≤◌, ◌⊎◌, inl, inr, List, Option, Err, subst}
use Rattle.bt_outside.specs.Told.{Rose}
use Rattle.bt_report.specs.declared.status.TheConstants.{OUT_OF_MEMORY, WRITE_FAILED}
use Rattle.bt_report.specs.Input.{Input, FilesFailed}
use Rattle.bt_report.specs.declared.report.Stop.{Stop}
use Rattle.bt_report.specs.declared.report.Stop.TheVariants.{Early, OutOfMemory}
use Rattle.bt_report.specs.Outcome.{Outcome, PrintsOneOf, text_alone}
use Rattle.bt_report.specs.Printing.{EndsWith}
use Rattle.bt_report.specs.Report.{StopIs}
use Rattle.bt_report.specs.Output.{HasFailed, Output, Prints}
use Rattle.bt_report.specs.Stored.{Stored}
use Rattle.bt_report.proofs.Reports.{PrintsOneOf-among}
use Rattle.bt_load.specs.Loaders.{Loader, Loads, and_then}
use Rattle.bt_load.proofs.Loads.{StopsSooner, stops_moved}
use Rattle.bt_load.specs.Choice.{AreAlike, Choice}
use Rattle.bt_load.proofs.OneLoad.{IsLawful, Loads-same}
use Rattle.bt_cli.specs.Command.{Answer, AsksNone, Command, Does, EndsAs, EndsBy, FindsOneStore, Finish, Finishes, IsAlone, IsOneAs, NeedsAs, OneStoreAs, OverStore, ReportsAs, ServesAs, ServesWith, Tells, no_store}
use Rattle.bt_cli.specs.Complete.{NothingFails}
use Rattle.bt_cli.specs.Run.{BeginsNoRun, End}

-- ---- a load after another

-- what the files tell, with their faults from one moment to another
abbrev pub input_from : (List ℕ → Option (List ℕ)) → ℕ → ℕ → Input
input_from told before end = record { told = told; faults_before = before; faults_after = end }

-- what is said from a later load on holds from an earlier one on
pub ends_then : {A B : Type 0} (first : Loader A) (next : A → Loader B) (Ends : A × B → Output → Stored → End → Type 0) (told now : List ℕ → Option (List ℕ)) (before between end : ℕ) (output : Output) (stored : Stored) (ended : End) (value : A)
    → StopsSooner (next value) → now ≡ told → before ≤ between → first.gives told value
    → EndsBy (next value) (λ other. Ends (value, other)) (input_from now between end) output stored ended → EndsBy (and_then first next) Ends (input_from told before end) output stored ended
ends_then first next Ends told now before between end output stored ended value moves same sooner given (inl (begins, stopped)) =
    inl (
      begins,
      PrintsOneOf-among output ((next value).stops now (Rose between end)) ((and_then first next).stops told (Rose before end))
          (λ outcome so. inr (value, given, stops_moved (next value) moves told now before between end same sooner outcome so)) ended.status stopped,
    )
ends_then first next Ends told now before between end output stored ended value moves same sooner given (inr (other, also, so)) =
    let P : (List ℕ → Option (List ℕ)) → Type 0 = λ held. (next value).gives held other in
    inr ((value, other), (given, subst P same also), so)

-- the first load stops
pub ends_first : {A B : Type 0} (first : Loader A) (next : A → Loader B) (Ends : A × B → Output → Stored → End → Type 0) (input : Input) (output : Output) (stored : Stored) (end : End) (stop : Stop) → BeginsNoRun stored end
    → StopIs (first.stops input.told (FilesFailed input)) stop → EndsWith output (Err stop) end.status → EndsBy (and_then first next) Ends input output stored end
ends_first first next Ends input output stored end OutOfMemory begins stops ends = inl (begins, inl ends)
ends_first first next Ends input output stored end (Early report) begins stops (inl none) = inl (begins, inl none)
ends_first first next Ends input output stored end (Early report) begins stops (inr printed) = inl (begins, inr (text_alone report.text.items report.status, inl stops, printed))

-- ---- a command that asks for no store

-- its report was printed, and no run was begun
ended_by : {Value : Type 0} (loads : Loader Value) (finish : Finish Value) → IsAlone finish → (input : Input) (output : Output) (stored : Stored) (end : End) → BeginsNoRun stored end
    → PrintsOneOf output (Loads loads (Tells finish no_store) input.told (FilesFailed input)) end.status → EndsBy loads (Finishes finish) input output stored end
ended_by loads (Answer Told) alone input output stored end begins (inl memory) = inl (begins, inl memory)
ended_by loads (Answer Told) alone input output stored end begins (inr (outcome, inl stopped, printed)) = inl (begins, inr (outcome, stopped, printed))
ended_by loads (Answer Told) alone input output stored end begins (inr (outcome, inr (value, given, so), printed)) = inr (value, given, (begins, inr (outcome, so, printed)))
ended_by loads (OverStore net_of Ends Told) alone input output stored end begins so = absurd alone

-- ---- reports

-- what is printed, or the sink failed
abbrev pub PrintsOrFails : Output → (Outcome → Type 0) → ℕ → Type 0
PrintsOrFails output Outcomes status = (status ≡ WRITE_FAILED) ⊎ PrintsOneOf output Outcomes status

among : (output : Output) (Some Others : Outcome → Type 0) → ((outcome : Outcome) → Some outcome → Others outcome) → (status : ℕ) → PrintsOrFails output Some status → PrintsOrFails output Others status
among output Some Others so status (inl failed) = inl failed
among output Some Others so status (inr printed) = inr (PrintsOneOf-among output Some Others so status printed)

-- a command that asks for no store prints one of its outcomes
alone_reported : {Value : Type 0} (finish : Finish Value) → IsAlone finish → (output : Output) (stored : Stored) (end : End) (value : Value) → Finishes finish value output stored end → PrintsOrFails output (Tells finish stored value) end.status
alone_reported (Answer Told) alone output stored end value ends = inr ends.1
alone_reported (OverStore net_of Ends Told) alone output stored end value ends = absurd alone

-- and so does each, where it does once its value is loaded
reported_by : {Value : Type 0} (loads : Loader Value) (finish : Finish Value) (input : Input) (output : Output) (stored : Stored) (end : End)
    → ((value : Value) → Finishes finish value output stored end → PrintsOrFails output (Tells finish stored value) end.status) → EndsBy loads (Finishes finish) input output stored end
    → PrintsOrFails output (Loads loads (Tells finish stored) input.told (FilesFailed input)) end.status
reported_by loads finish input output stored end each (inl (begins, stopped)) =
    inr (PrintsOneOf-among output (loads.stops input.told (FilesFailed input)) (Loads loads (Tells finish stored) input.told (FilesFailed input)) (λ outcome so. inl so) end.status stopped)
reported_by loads finish input output stored end each (inr (value, given, ends)) =
    among output (Tells finish stored value) (Loads loads (Tells finish stored) input.told (FilesFailed input)) (λ outcome so. inr (value, given, so)) end.status (each value ends)

-- ---- sound input

-- what was printed by a sink that did not fail has the status that was wanted
pub printed_status : (output : Output) (text : List ℕ) (wanted status : ℕ) → ¬ (HasFailed output) → Prints output text wanted status → status ≡ wanted
printed_status output text wanted status steady (inl (written, is)) = is
printed_status output text wanted status steady (inr (failed, part, six)) = absurd (steady failed)

alone_served : {Value : Type 0} (finish : Finish Value) → IsAlone finish → (input : Input) (output : Output) (stored : Stored) (end : End) → NothingFails input output stored → (value : Value) → Finishes finish value output stored end
    → (end.status ≡ OUT_OF_MEMORY) ⊎ ServesWith finish stored value end.status
alone_served (Answer Told) alone input output stored end steady value (begins, inl memory) = inl memory
alone_served (Answer Told) alone input output stored end steady value (begins, inr (outcome, is, printed)) = inr (outcome, is, printed_status output outcome.text outcome.status end.status steady.sink printed)
alone_served (OverStore net_of Ends Told) alone input output stored end steady value ends = absurd alone

served_on : {Value : Type 0} (Given Served : Value → Type 0) (status : ℕ) (value : Value) → Given value → (status ≡ OUT_OF_MEMORY) ⊎ Served value → (status ≡ OUT_OF_MEMORY) ⊎ ((value : Value) × Given value × Served value)
served_on Given Served status value given (inl memory) = inl memory
served_on Given Served status value given (inr served) = inr (value, given, served)

-- the loads of sound files do not stop
served_by : {Value : Type 0} (loads : Loader Value) (finish : Finish Value) (input : Input) (output : Output) (stored : Stored) (end : End) → ((outcome : Outcome) → loads.stops input.told (FilesFailed input) outcome → ⊥)
    → ((value : Value) → Finishes finish value output stored end → (end.status ≡ OUT_OF_MEMORY) ⊎ ServesWith finish stored value end.status) → EndsBy loads (Finishes finish) input output stored end
    → (end.status ≡ OUT_OF_MEMORY) ⊎ ((value : Value) × loads.gives input.told value × ServesWith finish stored value end.status)
served_by loads finish input output stored end never each (inl (begins, inl memory)) = inl memory
served_by loads finish input output stored end never each (inl (begins, inr (outcome, stopped, printed))) = absurd (never outcome stopped)
served_by loads finish input output stored end never each (inr (value, given, ends)) =
    served_on (loads.gives input.told) (λ one. ServesWith finish stored one end.status) end.status value given (each value ends)

-- ---- of a command

-- its loads stop in one way, or give one value, and with that its reports are one
pub record IsLawfulCommand {Value : Type 0} (loads : Loader Value) (finish : Finish Value) (choice : Choice) : Type 1 where
  pub lawful : IsLawful loads
  pub same : (one other : Stored) → FindsOneStore finish one other → (value : Value) (a b : Outcome) → Tells finish one value a → Tells finish other value b → AreAlike choice a b

abbrev pub LawsAs : Command → Type 1
LawsAs (Does Value loads finish choice) = IsLawfulCommand loads finish choice

pub same_as : (asked : Command) → LawsAs asked → (told : List ℕ → Option (List ℕ)) (one other : Stored) → NeedsAs asked told → OneStoreAs asked one other → (a b : Outcome) → ReportsAs asked told ⊥ one a → ReportsAs asked told ⊥ other b → IsOneAs asked a b
same_as (Does Value loads finish choice) laws told one other of_files kept = Loads-same choice loads laws.lawful told of_files (Tells finish one) (Tells finish other) (laws.same one other kept)

-- with its value it ends with one of its outcomes, printed, but where the sink failed
abbrev pub FinishReports : Command → Output → Stored → End → Type 0
FinishReports (Does Value loads finish choice) output stored end = (value : Value) → Finishes finish value output stored end → PrintsOrFails output (Tells finish stored value) end.status

pub none_reports : (asked : Command) → AsksNone asked → (output : Output) (stored : Stored) (end : End) → FinishReports asked output stored end
none_reports (Does Value loads finish choice) none output stored end = alone_reported finish none output stored end

pub reported_as : (asked : Command) (input : Input) (output : Output) (stored : Stored) (end : End) → FinishReports asked output stored end → EndsAs asked input output stored end → PrintsOrFails output (ReportsAs asked input.told (FilesFailed input) stored) end.status
reported_as (Does Value loads finish choice) input output stored end each ends = reported_by loads finish input output stored end each ends

-- and where nothing fails, as it should
abbrev pub FinishServes : Command → Output → Stored → End → Type 0
FinishServes (Does Value loads finish choice) output stored end = (value : Value) → Finishes finish value output stored end → (end.status ≡ OUT_OF_MEMORY) ⊎ ServesWith finish stored value end.status

pub none_serves : (asked : Command) → AsksNone asked → (input : Input) (output : Output) (stored : Stored) (end : End) → NothingFails input output stored → FinishServes asked output stored end
none_serves (Does Value loads finish choice) none input output stored end steady = alone_served finish none input output stored end steady

pub served_as : (asked : Command) → LawsAs asked → (input : Input) (output : Output) (stored : Stored) (end : End) → NothingFails input output stored → FinishServes asked output stored end → EndsAs asked input output stored end → ServesAs asked input.told stored end.status
served_as (Does Value loads finish choice) laws input output stored end steady each ends = λ sound.
    served_by loads finish input output stored end (laws.lawful.never input.told (FilesFailed input) steady.files sound) each ends

-- a command that asks for no store ends as its report says
pub ended_as : (asked : Command) → AsksNone asked → (input : Input) (output : Output) (stored : Stored) (end : End) → BeginsNoRun stored end → PrintsOneOf output (ReportsAs asked input.told (FilesFailed input) no_store) end.status → EndsAs asked input output stored end
ended_as (Does Value loads finish choice) none input output stored end begins so = ended_by loads finish none input output stored end begins so
