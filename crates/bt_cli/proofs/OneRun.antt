-- Runs of one script over one told store: where it fails in no call, each comes to its end, or the store's journal is at fault, and then
-- they have one outcome.
use Rattle.std.proofs.Common.{◌≡◌, ◌≢◌, ℕ, zero, suc, ◌≤◌, inl, inr, List, [], length, Some, refl, ap, ◌∙◌, subst, arith}
use Rattle.std.proofs.lemmas.Option.{same_Some}
use Rattle.bt_frame.specs.declared.limits.TheConstants.{MOST_JOURNAL_BYTES}
use Rattle.bt_outside.specs.Told.{Rose}
use Rattle.bt_net.specs.Network.{Net}
use Rattle.bt_air.specs.declared.event.Event.{Event}
use Rattle.bt_script.specs.declared.script.Item.{Item}
use Rattle.bt_script.specs.declared.script.Script.{Script}
use Rattle.bt_journal.specs.declared.call.Change.{Change}
use Rattle.bt_history.specs.declared.fault.RecoverFault.{RecoverFault}
use Rattle.bt_history.specs.declared.fault.RecoverFault.TheVariants.{StoreFault}
use Rattle.bt_history.specs.Recovery.{IsRecoverFault, Recovered}
use Rattle.bt_history.specs.Store.{RoseBy}
use Rattle.bt_report.specs.declared.status.TheConstants.{DONE, OUT_OF_MEMORY}
use Rattle.bt_centre.specs.declared.history.History.{History}
use Rattle.bt_report.specs.Output.{Output}
use Rattle.bt_centre.specs.RecoverFaults.{PrintsFault, recover_line, recover_status, recover_words}
use Rattle.bt_centre.specs.Run.{EndsFrom, RunsTo, RunsToRestart, RunsWhole, lost_in}
use Rattle.bt_report.specs.Stored.{IsSteady, Stored}
use Rattle.bt_load.specs.Choice.{AnyGood, AreAlike}
use Rattle.bt_report.specs.Outcome.{Outcome, Says, text_alone}
use Rattle.bt_cli.specs.Command.{IsOneStore}
use Rattle.bt_cli.specs.Run.{PrintsRun, sink_with}
use Rattle.bt_cli.proofs.Kept.{kept_status}
use Rattle.bt_load.proofs.OneLoad.{done_alike, same_alike}
use Rattle.bt_cli.proofs.NamedFaults.{named}
use Rattle.bt_cli.proofs.OneJournal.{Comes, Laws, fault_comes, one_coming, told}

-- a run that came to its end, whatever its changes were
abbrev HasEnded : List Change → Outcome → Type 0
HasEnded changes outcome = outcome.status ≡ DONE

-- a sink that takes all did not fail
no_fault : Rose 0 0 → ⊥
no_fault (inl less) = absurd (omega (arith, less))
no_fault (inr last) = absurd (omega (arith, last))

outcome_is : (outcome : Outcome) (text : List ℕ) (status : ℕ) → outcome.text ≡ text → outcome.status ≡ status → outcome ≡ text_alone text status
outcome_is outcome text status same_text same_status =
    ap (λ (t : List ℕ). text_alone t outcome.status) same_text ∙ ap (λ (n : ℕ). text_alone text n) same_status

fault_said : (fault : RecoverFault) (outcome : Outcome) → PrintsFault (sink_with outcome.text) [] fault outcome.status → Says (recover_words fault) (recover_status fault) outcome
fault_said fault outcome (inl (wrote, is)) = outcome_is outcome (recover_line fault) (recover_status fault) (same_Some outcome.text (recover_line fault) wrote) is
fault_said fault outcome (inr (failed, part, six)) = absurd (no_fault failed)

-- a store that does not fail loses nothing
pub none_lost : (stored : Stored) (count : ℕ) → IsSteady stored → RoseBy count stored.faults_before stored.faults_after → count ≡ 0
none_lost stored zero steady rose = refl
none_lost stored (suc n) steady (inl rose) = absurd (steady (inl (omega (arith, rose))))
none_lost stored (suc n) steady (inr last) = absurd (steady (inr last))

-- and no recovery fails over it at a restart
pub rose_later : (count before between now : ℕ) → RoseBy count before between → Rose between now → between ≤ now → Rose before now
rose_later count before between now (inl first) (inl second) later = inl (omega (arith, first, second))
rose_later count before between now (inr last) rose later = inr (omega (arith, last, later))
rose_later count before between now first (inr last) later = inr last

pub never_failed : (net : Net) (held : List ℕ) (items : List Item) (output : Output) (stored : Stored) (opening : List Change) (status : ℕ) (histories : List History) (events : List Event)
    → stored.before ≡ Some held → IsSteady stored → RunsToRestart net items output stored opening status histories events → ⊥
never_failed net held items output stored opening status histories events is steady stops =
    let only : stops.fault ≡ StoreFault = told stored.before held (λ _. stops.fault ≡ StoreFault) is stops.only in
    let Failed : RecoverFault → Type 0 = λ fault. IsRecoverFault net stops.told stored.after stops.faults stored.faults_after fault in
    let failed = subst Failed only stops.failed in
    steady (rose_later (length (lost_in histories)) stored.faults_before stops.faults stored.faults_after stops.left.count failed.1 stops.later)

-- a run over such a store came to its end
pub whole_ended : (net : Net) (items : List Item) (output : Output) (stored : Stored) (opening : List Change) (status : ℕ) (histories : List History) (events : List Event)
    → IsSteady stored → RunsWhole net items output stored opening status histories events → status ≡ DONE
whole_ended net items output stored opening status histories events steady ran =
    ran.status_is ∙ kept_status net _ opening ran.run.end.opening histories ran.run.legal (none_lost stored (length (lost_in histories)) steady ran.left.count)

parts_ended : (net : Net) (held : List ℕ) (items : List Item) (text : List ℕ) (stored : Stored) (opening : List Change) (status : ℕ) (histories : List History) (events : List Event)
    → stored.before ≡ Some held → IsSteady stored → status ≢ OUT_OF_MEMORY → EndsFrom net items (sink_with text) stored opening status histories events → status ≡ DONE
parts_ended net held items text stored opening status histories events is steady memory (inl broke) = absurd (memory broke.status_is)
parts_ended net held items text stored opening status histories events is steady memory (inr (inl ran)) = whole_ended net items (sink_with text) stored opening status histories events steady ran
parts_ended net held items text stored opening status histories events is steady memory (inr (inr (inl partly))) = absurd (no_fault partly.failed)
parts_ended net held items text stored opening status histories events is steady memory (inr (inr (inr stops))) = absurd (never_failed net held items (sink_with text) stored opening status histories events is steady stops)

run_comes : (net : Net) (script : Script) (held : List ℕ) (stored : Stored) (outcome : Outcome) (histories : List History) (events : List Event) → stored.before ≡ Some held → IsSteady stored
    → outcome.status ≢ OUT_OF_MEMORY → RunsTo net script (sink_with outcome.text) stored outcome.status histories events → Comes HasEnded net held outcome
run_comes net script held stored outcome histories events is steady memory (inl early) = absurd (memory early.status_is)
run_comes net script held stored outcome histories events is steady memory (inr (inl nothing)) =
    fault_comes HasEnded net held stored nothing.fault outcome is steady nothing.failed (named nothing.fault outcome nothing.named (fault_said nothing.fault outcome nothing.printed))
run_comes net script held stored outcome histories events is steady memory (inr (inr run)) =
    inl (record {
      changes = run.opening;
      told = told stored.before held (λ bytes. Recovered net bytes run.opening) is run.opens.told;
      short = told stored.before held (λ bytes. length bytes ≤ MOST_JOURNAL_BYTES) is run.opens.readable;
      done = parts_ended net held script.items outcome.text stored run.opening outcome.status histories events is steady memory run.ends;
    })

-- so runs of one script have one status, and where that is not 0 one outcome
pub one_run : Laws → (net : Net) (script : Script) (one other : Stored) → IsOneStore one other → (a b : Outcome) → PrintsRun net script one a → PrintsRun net script other b → AreAlike AnyGood a b
one_run laws net script one other kept a b first second =
    one_coming laws (AreAlike AnyGood) (same_alike AnyGood) HasEnded (λ changes u v done also. done_alike u v done also) net first.sound kept.held a b
    (run_comes net script kept.held one a first.histories first.events kept.told kept.steady first.memory first.ends)
    (run_comes net script kept.held other b second.histories second.events kept.also kept.steadily second.memory second.ends)
