-- What is said of a session that is kept from its start; and a session in which nothing fails comes to its end.
use Rattle.std.proofs.Common.{◌≡◌, ℕ, inl, inr, List, length, Option, Some, refl, sym, ◌∙◌, subst}
use Rattle.bt_outside.specs.Told.{Rose}
use Rattle.bt_script.specs.declared.sites.Sites.{Sites}
use Rattle.bt_net.specs.Network.{Net, IsSound}
use Rattle.bt_air.specs.declared.event.Event.{Event}
use Rattle.bt_journal.specs.declared.call.Change.{Change}
use Rattle.bt_history.specs.declared.fault.RecoverFault.{RecoverFault}
use Rattle.bt_history.specs.declared.fault.RecoverFault.TheVariants.{StoreFault}
use Rattle.bt_history.specs.Recovery.{IsRecoverFault}
use Rattle.bt_report.specs.Input.{Input, FilesFailed}
use Rattle.bt_report.specs.Outcome.{Outcome, text_alone}
use Rattle.bt_report.specs.Output.{HasFailed}
use Rattle.bt_report.specs.Report.{StopIs}
use Rattle.bt_report.specs.declared.report.Stop.{Stop}
use Rattle.bt_report.specs.declared.report.Stop.TheVariants.{Early, OutOfMemory}
use Rattle.bt_report.specs.Stored.{IsSteady, Stored}
use Rattle.bt_centre.specs.declared.history.History.{History}
use Rattle.bt_centre.specs.declared.session.InputEnd.{InputEnd}
use Rattle.bt_centre.specs.declared.session.InputEnd.TheVariants as ending
use Rattle.bt_centre.specs.Run.{lost_in, status_after}
use Rattle.bt_centre.specs.Session.{SessionEndsFrom, SessionTo, SessionToRestart, SessionWhole, StopsHearing, closing_text, heard_in, session_turns, status_behind}
use Rattle.bt_centre.specs.Talked.{Says, SaysOrNot, Talked, behind}
use Rattle.bt_outside.specs.Told.{Gives}
use Rattle.bt_load.specs.Files.{IsLoaded, Spells, StopsAtLoad}
use Rattle.bt_load.specs.Kinds.{network_file}
use Rattle.bt_cli.specs.Complete.{IsDone, NothingFails, TellsChanges}
use Rattle.bt_cli.specs.Live.{EndsOn, SaysOneOf, SaysStop}
use Rattle.bt_cli.specs.Run.{End}
use Rattle.bt_centre.proofs.Saying.{says_at, untimed}
use Rattle.bt_load.proofs.OneLoad.{IsLoaded-same, file_lawful}
use Rattle.bt_cli.proofs.Complete.{wants_memory}
use Rattle.bt_cli.proofs.Kept.{kept_status}
use Rattle.bt_cli.proofs.OneJournal.{Laws, told}
use Rattle.bt_cli.proofs.OneRun.{none_lost, rose_later}

-- what was said of an outcome
pub said_one : (talk : Talked) (Outcomes : Outcome → Type 0) (text : List ℕ) (wanted status : ℕ) → Outcomes (text_alone text wanted) → SaysOrNot (untimed talk) text wanted status → SaysOneOf talk Outcomes status
said_one talk Outcomes text wanted status is (inl memory) = inl memory
said_one talk Outcomes text wanted status is (inr told_so) = inr (text_alone text wanted, is, says_at talk text wanted status told_so)

-- and of a stop
pub said_stop : (talk : Talked) (Outcomes : Outcome → Type 0) (stop : Stop) (status : ℕ) → StopIs Outcomes stop → SaysStop (untimed talk) stop status → SaysOneOf talk Outcomes status
said_stop talk Outcomes (Early report) status is told_so = said_one talk Outcomes report.text.items report.status status is told_so
said_stop talk Outcomes OutOfMemory status is memory = inl memory

-- a session whose input came to its end ended with status 0, where nothing failed
ended_so : (sites : Sites) (talk : Talked) (lines : List (Option (List ℕ))) (end : InputEnd) (histories : List History) (status : ℕ) → ¬ (Rose talk.unheard_before talk.unheard_after) → StopsHearing sites talk lines end
    → status ≡ status_behind end histories → status_after histories ≡ 0 → status ≡ 0
ended_so sites talk lines ending.Over histories status steady stops is kept = is ∙ kept
ended_so sites talk lines ending.Failed histories status steady (rose, given) is kept = absurd (steady rose)

whole_done : (net : Net) (sites : Sites) (talk : Talked) (stored : Stored) (opening : List Change) (status : ℕ) (histories : List History) (events : List Event)
    → IsSteady stored → ¬ (HasFailed talk.output) → ¬ (Rose talk.unheard_before talk.unheard_after) → (whole : SessionWhole net sites talk stored opening status histories events)
    → Says (behind talk (session_turns net sites opening whole.start whole.exchanges)) (closing_text whole.end histories) (status_behind whole.end histories) status → status ≡ 0
whole_done net sites talk stored opening status histories events steady sink heard whole (inl (all, is)) =
    ended_so sites talk (heard_in whole.exchanges) whole.end histories status heard whole.stops is
    (kept_status net _ opening whole.session.run.end.opening histories whole.session.run.legal (none_lost stored (length (lost_in histories)) steady whole.left.count))
whole_done net sites talk stored opening status histories events steady sink heard whole (inr (part, is)) = absurd (sink part.failed)

-- no recovery fails at a restart over a store that tells its bytes and does not fail
never_failed : (net : Net) (sites : Sites) (held : List ℕ) (talk : Talked) (stored : Stored) (opening : List Change) (status : ℕ) (histories : List History) (events : List Event)
    → stored.before ≡ Some held → IsSteady stored → SessionToRestart net sites talk stored opening status histories events → ⊥
never_failed net sites held talk stored opening status histories events is steady stops =
    let only : stops.fault ≡ StoreFault = told stored.before held (λ _. stops.fault ≡ StoreFault) is stops.only in
    let Failed : RecoverFault → Type 0 = λ fault. IsRecoverFault net stops.told stored.after stops.faults stored.faults_after fault in
    let failed = subst Failed only stops.failed in
    steady (rose_later (length (lost_in histories)) stored.faults_before stops.faults stored.faults_after stops.left.count failed.1 stops.later)

lines_done : (net : Net) (sites : Sites) (held : List ℕ) (talk : Talked) (stored : Stored) (opening : List Change) (status : ℕ) (histories : List History) (events : List Event)
    → stored.before ≡ Some held → IsSteady stored → ¬ (HasFailed talk.output) → ¬ (Rose talk.unheard_before talk.unheard_after) → SessionEndsFrom net sites talk stored opening status histories events → IsDone status
lines_done net sites held talk stored opening status histories events is steady sink heard (inl broke) = inr broke.off.status_is
lines_done net sites held talk stored opening status histories events is steady sink heard (inr (inl whole)) = inl (whole_done net sites talk stored opening status histories events steady sink heard whole whole.said)
lines_done net sites held talk stored opening status histories events is steady sink heard (inr (inr (inl unsaid))) = absurd (sink unsaid.part.failed)
lines_done net sites held talk stored opening status histories events is steady sink heard (inr (inr (inr stops))) = absurd (never_failed net sites held talk stored opening status histories events is steady stops)

session_done : Laws → (net : Net) (sites : Sites) (talk : Talked) (stored : Stored) (status : ℕ) (histories : List History) (events : List Event)
    → IsSound net → IsSteady stored → ¬ (HasFailed talk.output) → ¬ (Rose talk.unheard_before talk.unheard_after) → TellsChanges net stored → SessionTo net sites talk stored status histories events → IsDone status
session_done laws net sites talk stored status histories events sound steady sink heard tells (inl early) = inr early.status_is
session_done laws net sites talk stored status histories events sound steady sink heard tells (inr (inl nothing)) =
    absurd (nothing.named (wants_memory laws net stored nothing.fault sound steady tells nothing.failed))
session_done laws net sites talk stored status histories events sound steady sink heard tells (inr (inr from)) =
    lines_done net sites tells.held talk stored from.opening status histories events tells.told steady sink heard from.ends

-- nothing was said of a load that does not stop
memory_alone : (talk : Talked) (Outcomes : Outcome → Type 0) (status : ℕ) → ((outcome : Outcome) → Outcomes outcome → ⊥) → SaysOneOf talk Outcomes status → IsDone status
memory_alone talk Outcomes status never (inl memory) = inr memory.0
memory_alone talk Outcomes status never (inr (outcome, is, told_so)) = absurd (never outcome is)

-- a file that spells a network is loaded as that network
spelled : (told : List ℕ → Option (List ℕ)) (name : List ℕ) (net : Net) → Spells network_file told name net → IsLoaded network_file told name net
spelled told name net (held, is, short, reads) = let P : Option (List ℕ) → Type 0 = λ o. Gives o held in (held, (subst P (sym is) refl, short), reads)

-- a session in which nothing fails comes to its end
pub live_done : Laws → (sites : Sites) (input : Input) (talk : Talked) (stored : Stored) (net : List ℕ) (end : End) → NothingFails input talk.output stored → ¬ (Rose talk.unheard_before talk.unheard_after)
    → EndsOn sites input talk stored net end → (network : Net) → Spells network_file input.told net network → TellsChanges network stored → IsDone end.status
live_done laws sites input talk stored net end steady heard (inl (nothing, stopped)) network spells tells =
    memory_alone talk (StopsAtLoad network_file input.told (FilesFailed input) net) end.status ((file_lawful network_file net).never input.told (FilesFailed input) steady.files (network, spells)) stopped
live_done laws sites input talk stored net end steady heard (inr (other, loaded, sound, session)) network spells tells =
    let one : other ≡ network = IsLoaded-same network_file input.told net spells.0 spells.1 other network loaded (spelled input.told net network spells) in
    session_done laws other sites talk stored end.status end.histories end.events sound steady.store steady.sink heard (subst (λ (n : Net). TellsChanges n stored) (sym one) tells) session
