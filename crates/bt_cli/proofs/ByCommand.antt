-- What goes over all commands.
use Rattle.std.proofs.Common.{◌≡◌, ℕ, ◌⊎◌, inr, List, [], codes, Option, Some, IfSome, Bor, Result, true, false, refl, sym, ap, ◌∙◌, subst}
use Rattle.std.specs.Str.{bytes_eq}
use Rattle.std.proofs.lemmas.Option.{same_Some}
use Rattle.std.proofs.lemmas.Slice.Eq.{bytes_eq-Decides}
use Rattle.bt_air.specs.declared.event.Event.{Event}
use Rattle.bt_centre.specs.declared.history.History.{History}
use Rattle.bt_report.specs.declared.status.TheConstants.{DONE, WRITE_FAILED}
use Rattle.bt_report.specs.Input.{Input, FilesFailed}
use Rattle.bt_report.specs.Outcome.{Outcome, PrintsOneOf}
use Rattle.bt_report.specs.Output.{Output}
use Rattle.bt_report.specs.Stored.{Stored}
use Rattle.bt_load.specs.Choice.{AnyGood, AreAlike}
use Rattle.bt_load.specs.Kinds.{matrix_file, network_file}
use Rattle.bt_load.proofs.OneLoad.{done_alike, file_lawful, nothing_lawful}
use Rattle.bt_cli.specs.declared.command_line.CommandLine.{CommandLine}
use Rattle.bt_cli.specs.declared.command_line.CommandLine.TheVariants as command
use Rattle.bt_cli.specs.Calls.{stored_of}
use Rattle.bt_cli.specs.Complete.{NothingFails}
use Rattle.bt_cli.specs.Json.{json_file}
use Rattle.bt_cli.specs.Make.{PrintsSummary}
use Rattle.bt_cli.specs.Modes.{PrintsSchedule}
use Rattle.bt_cli.specs.Plans.{PrintsPlan}
use Rattle.bt_load.specs.Loaders.{file}
use Rattle.bt_report.specs.declared.report.Report.{Report}
use Rattle.bt_report.specs.declared.report.Stop.{Stop}
use Rattle.bt_report.specs.Printing.{CameTo}
use Rattle.bt_cli.specs.Command.{EndsBy, no_store}
use Rattle.bt_cli.specs.Replay.{EndsReplay, HasReplayed, without_run}
use Rattle.bt_cli.specs.Request.{Request, Faulty, CheckModes, CheckPlan, PlanModes, PlanDemand, RunScript, ReplayJournal, PlanDrawn, TimeSends, PlanPart, TellCapacity, TellJournal, TellEdits, TellCarry, TellTraffic, TellJson, asked, name_of}
use Rattle.bt_cli.specs.Run.{BeginsNoRun, End}
use Rattle.bt_cli.specs.Top.{AreOneStore, AreTold, AsksNoStore, Ends, IsOneReport, Reported, Reports, Serves, command_of}
use Rattle.bt_cli.specs.Trans.{PrintsPart}
use Rattle.bt_cli.proofs.Finished.{FinishReports, FinishServes, LawsAs, ended_as, none_reports, none_serves, reported_as, same_as, served_as}
use Rattle.bt_cli.proofs.Complete.{recovery_done, run_done}
use Rattle.bt_cli.proofs.LoadsAsked.{Lines, asked_lawful}
use Rattle.bt_cli.proofs.OneLook.{carry_lawful, carry_same, edits_lawful, edits_same, journal_lawful, look_same}
use Rattle.bt_cli.proofs.Lawful.{delay_lawful, modes_lawful, plan_lawful, script_lawful, table_lawful}
use Rattle.bt_cli.proofs.OneJournal as journal
use Rattle.bt_cli.proofs.OneReplay.{one_replay}
use Rattle.bt_cli.proofs.OneReport.{OneVerdict, Judges-same, JudgesPlan-same, TellsTimes-same, suited_lawful}
use Rattle.bt_cli.proofs.OneRun.{one_run}
use Rattle.bt_cli.proofs.Runs.{recovery_reported, run_reported}
use Rattle.bt_cli.proofs.Timed.{OnePlanVerdict}

-- the laws of heaviest lines, of verdicts and of journals
pub record Laws : Type 0 where
  pub lines : Lines
  pub verdict : OneVerdict
  pub plan_verdict : OnePlanVerdict
  pub journals : journal.Laws

-- two outcomes whose statuses say that the work was done
alike : {Tells : Outcome → Type 0} → ((o : Outcome) → Tells o → o.status ≡ DONE) → (a b : Outcome) → Tells a → Tells b → AreAlike AnyGood a b
alike so a b one other = done_alike a b (so a one) (so b other)

-- for each command: its loads stop in one way or give one value, and with that it has one report, or one as good as another
laws_of : Laws → (request : Request) → LawsAs (command_of request)
laws_of laws Faulty = record { lawful = nothing_lawful; same = λ one other kept none a b first second. first ∙ sym second }
laws_of laws (CheckModes matrix modes) = record { lawful = modes_lawful matrix modes; same = λ one other kept both. Judges-same laws.verdict both.0 both.1 }
laws_of laws (CheckPlan net traffic plan) = record { lawful = plan_lawful laws.lines net traffic plan; same = λ one other kept both. JudgesPlan-same laws.plan_verdict both.0.0 both.0.1 both.1 }
laws_of laws (PlanModes matrix) = record { lawful = file_lawful matrix_file matrix; same = λ one other kept rows. alike {Tells = PrintsSchedule rows} (λ o is. ap (λ (x : Outcome). x.status) is.4) }
laws_of laws (PlanDemand net traffic) = record { lawful = asked_lawful laws.lines net traffic; same = λ one other kept asked. alike {Tells = PrintsPlan asked.0 asked.1} (λ o is. ap (λ (x : Outcome). x.status) is.printed) }
laws_of laws (TimeSends net traffic plan delays) = record { lawful = delay_lawful laws.lines net traffic plan delays; same = λ one other kept all. TellsTimes-same laws.plan_verdict all.0.0 all.0.1 all.1.0 all.1.1 }
laws_of laws (PlanDrawn beams seed) = record { lawful = nothing_lawful; same = λ one other kept none. alike {Tells = PrintsSummary beams seed} (λ o is. ap (λ (x : Outcome). x.status) is.1.printed) }
laws_of laws (PlanPart transponders matrix) = record { lawful = suited_lawful transponders matrix; same = λ one other kept rows. alike {Tells = PrintsPart transponders rows} (λ o is. ap (λ (x : Outcome). x.status) is.printed) }
laws_of laws (TellCapacity net traffic) = record { lawful = asked_lawful laws.lines net traffic; same = λ one other kept asked a b first second. first ∙ sym second }
laws_of laws (TellJournal net journal look) = record { lawful = journal_lawful net journal; same = λ one other kept both. look_same laws.journals look both.0 both.1 }
laws_of laws (TellEdits net journal traffic desk) = record { lawful = edits_lawful laws.lines net journal traffic; same = λ one other kept all. edits_same laws.journals desk all.0.0 all.0.1 all.1 }
laws_of laws (TellCarry net journal new) = record { lawful = carry_lawful net journal new; same = λ one other kept all. carry_same laws.journals laws.lines all.0.0 all.0.1 all.1 }
laws_of laws (TellTraffic net table) = record { lawful = table_lawful net table; same = λ one other kept both a b first second. first ∙ sym second }
laws_of laws (TellJson text) = record { lawful = file_lawful json_file text; same = λ one other kept json a b first second. first ∙ sym second }
laws_of laws (RunScript net script _) = record { lawful = script_lawful net script; same = λ one other kept both. one_run laws.journals both.0 both.1 one other kept }
laws_of laws (ReplayJournal net _) = record { lawful = file_lawful network_file net; same = λ one other kept network. one_replay laws.journals network one other kept }

-- ---- one report

pub Reports-same : Laws → (told : List ℕ → Option (List ℕ)) (one other : Stored) (request : Request) → AreTold told request → AreOneStore request one other
    → (a b : Outcome) → Reports told ⊥ one request a → Reports told ⊥ other request b → IsOneReport request a b
Reports-same laws told one other request of_files kept = same_as (command_of request) (laws_of laws request) told one other of_files kept

-- ---- how a command ends with its value

finish_reported : (request : Request) (output : Output) (stored : Stored) (end : End) → FinishReports (command_of request) output stored end
finish_reported (RunScript net script _) output stored end = λ both ends. run_reported both.0 both.1 output stored end.status end.histories end.events ends.0 ends.1
finish_reported (ReplayJournal net _) output stored end = λ network ends. inr (recovery_reported network output stored end.status ends.ends)
finish_reported request output stored end = none_reports (command_of request) tt output stored end

pub ends_reported : (input : Input) (output : Output) (stored : Stored) (request : Request) (end : End) → Ends input output stored request end
    → (end.status ≡ WRITE_FAILED) ⊎ PrintsOneOf output (Reports input.told (FilesFailed input) stored request) end.status
ends_reported input output stored request end ends = reported_as (command_of request) input output stored end (finish_reported request output stored end) ends

finish_served : journal.Laws → (request : Request) (input : Input) (output : Output) (stored : Stored) (end : End) → NothingFails input output stored → FinishServes (command_of request) output stored end
finish_served laws (RunScript net script _) input output stored end steady = λ both ends. inr (λ tells. run_done laws both.0 both.1 output stored end.status end.histories end.events ends.0 steady.store steady.sink tells ends.1)
finish_served laws (ReplayJournal net _) input output stored end steady = λ network ends. inr (λ tells. recovery_done laws network output stored end.status steady.sink steady.store tells ends.ends)
finish_served laws request input output stored end steady = none_serves (command_of request) tt input output stored end steady

pub all_served : Laws → (input : Input) (output : Output) (stored : Stored) (request : Request) (end : End) → NothingFails input output stored → Ends input output stored request end
    → Serves input.told stored request end.status
all_served laws input output stored request end steady ends =
    served_as (command_of request) (laws_of laws request) input output stored end steady (finish_served laws.journals request input output stored end steady) ends

-- ---- by its name

-- a command line that is no run and no replay asks for no store
pub none_asked : (read : CommandLine) → ((net script journal : Bor (List ℕ)) → read ≡ command.RunScript net script journal → ⊥)
    → ((net journal : Bor (List ℕ)) → read ≡ command.ReplayJournal net journal → ⊥) → AsksNoStore (asked read)
none_asked (command.RunScript net script journal) no_run no_replay = absurd (no_run net script journal refl)
none_asked (command.ReplayJournal net journal) no_run no_replay = absurd (no_replay net journal refl)
none_asked _ no_run no_replay = tt

-- no word is two names
two_names : (name text : List ℕ) (first : Option (List ℕ)) → bytes_eq name text ≡ false → first ≡ Some name → first ≡ Some text → ⊥
two_names name text first other is also =
    let same : bytes_eq name text ≡ true = (bytes_eq-Decides name text).1 (same_Some name text (sym is ∙ also)) in
    let both : true ≡ false = sym same ∙ other in
    cc

-- nor does one whose first word is another name
pub none_named : (read : CommandLine) (first : Option (List ℕ)) (name : List ℕ) → IfSome (name_of read) (λ word. first ≡ Some word) → first ≡ Some name
    → bytes_eq (codes "run") name ≡ false → bytes_eq (codes "replay") name ≡ false → AsksNoStore (asked read)
none_named read first name named is no_run no_replay =
    let P : CommandLine → Type 0 = λ line. IfSome (name_of line) (λ word. first ≡ Some word) in
    none_asked read
    (λ net script journal same. two_names (codes "run") name first no_run (subst P same named) is)
    (λ net journal same. two_names (codes "replay") name first no_replay (subst P same named) is)

-- ---- from call to call

-- what a call without a run gives back
end_is : (end : End) (status : ℕ) → end.histories ≡ [] → end.events ≡ [] → end.status ≡ status → end ≡ without_run status
end_is end status no_histories no_events ended =
    let with_status : ℕ → End = λ n. record { status = n; histories = end.histories; events = end.events } in
    let with_histories : List History → End = λ h. record { status = status; histories = h; events = end.events } in
    let with_events : List Event → End = λ e. record { status = status; histories = []; events = e } in
    ap with_status ended ∙ ap with_histories no_histories ∙ ap with_events no_events

-- a replay ends so, with the store and the status that its call gave back
pub has_replayed : {Store : Type 0} (tell : Store → Option (List ℕ)) (count : Store → ℕ) (input : Input) (output : Output) (given left back : Store) (status : ℕ) (net : List ℕ) (end : End)
    → end.histories ≡ [] → end.events ≡ [] → left ≡ back → end.status ≡ status → EndsReplay input output (stored_of tell count given back) net status → EndsBy (file network_file net) HasReplayed input output (stored_of tell count given left) end
has_replayed {Store} tell count input output given left back status net end no_histories no_events same ended so =
    let Left : Store → Type 0 = λ store. EndsReplay input output (stored_of tell count given store) net status in
    let Ended : End → Type 0 = λ one. EndsBy (file network_file net) HasReplayed input output (stored_of tell count given left) one in
    subst Ended (sym (end_is end status no_histories no_events ended)) (subst Left (sym same) so)

-- what holds at a command line holds at one that is it
pub ends_at : (input : Input) (output : Output) (stored : Stored) (line given : CommandLine) (end : End) → line ≡ given → Ends input output stored (asked given) end
    → Ends input output stored (asked line) end
ends_at input output stored line given end is so = subst (λ (l : CommandLine). Ends input output stored (asked l) end) (sym is) so

pub came_at : (told : List ℕ → Option (List ℕ)) (failed : Type 0) (line given : CommandLine) → line ≡ given → (result : Result Report Stop) → CameTo (Reports told failed no_store (asked given)) result
    → CameTo (Reports told failed no_store (asked line)) result
came_at told failed line given is result came = subst (λ (l : CommandLine). CameTo (Reports told failed no_store (asked l)) result) (sym is) came

-- a command that asks for no store ends so, with the store that was given and the status that its report gave back
pub ended_alone : {Store : Type 0} (tell : Store → Option (List ℕ)) (count : Store → ℕ) (input : Input) (output : Output) (given left : Store) (status : ℕ) (request : Request) (end : End) → AsksNoStore request
    → end.histories ≡ [] → end.events ≡ [] → left ≡ given → end.status ≡ status → Reported input output request status → Ends input output (stored_of tell count given left) request end
ended_alone tell count input output given left status request end none no_histories no_events same ended so =
    let Ended : ℕ → Type 0 = λ n. Reported input output request n in
    let begins : BeginsNoRun (stored_of tell count given left) end = record { histories = no_histories; events = no_events; store = record { bytes = ap tell same; faults = ap count same } } in
    ended_as (command_of request) none input output (stored_of tell count given left) end begins (subst Ended (sym ended) so)
