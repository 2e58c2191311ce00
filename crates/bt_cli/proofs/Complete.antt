-- Where nothing is at fault and nothing fails, a run and a replay do their work.
use Rattle.std.proofs.Common.{◌≡◌, ℕ, ◌<◌, inl, inr, List, length, Some, refl, ap, ◌∙◌, subst, arith}
use Rattle.bt_frame.specs.declared.limits.TheConstants.{MOST_JOURNAL_BYTES}
use Rattle.bt_net.specs.Network.{Net, IsSound}
use Rattle.bt_air.specs.declared.event.Event.{Event}
use Rattle.bt_script.specs.declared.script.Item.{Item}
use Rattle.bt_script.specs.declared.script.Script.{Script}
use Rattle.bt_journal.specs.declared.call.Change.{Change}
use Rattle.bt_history.specs.declared.fault.RecoverFault.{RecoverFault}
use Rattle.bt_history.specs.declared.fault.RecoverFault.TheVariants.{J1, J2, StoreFault, TooLong, OutOfMemory}
use Rattle.bt_history.specs.Recovery.{IsFirstNoLine, IsFirstStray}
use Rattle.bt_report.specs.declared.status.TheConstants.{DONE}
use Rattle.bt_centre.specs.declared.history.History.{History}
use Rattle.bt_report.specs.Output.{Output, HasFailed}
use Rattle.bt_centre.specs.Run.{EndsFrom, RunsTo}
use Rattle.bt_report.specs.Stored.{IsSteady, Stored}
use Rattle.bt_cli.specs.Complete.{IsDone, TellsChanges}
use Rattle.bt_report.specs.Outcome.{Outcome, PrintsOneOf}
use Rattle.bt_cli.specs.Replay.{EndsRecovery, IsNotRecovered, NamesRecoverFault, PrintsState}
use Rattle.bt_cli.proofs.Finished.{printed_status}
use Rattle.bt_cli.proofs.OneJournal.{Laws, told}
use Rattle.bt_cli.proofs.OneRun.{never_failed, whole_ended}

-- ---- the output

done : (output : Output) (Outcomes : Outcome → Type 0) (status : ℕ) → ¬ (HasFailed output) → ((outcome : Outcome) → Outcomes outcome → outcome.status ≡ DONE) → PrintsOneOf output Outcomes status → IsDone status
done output Outcomes status steady so (inl memory) = inr memory
done output Outcomes status steady so (inr (outcome, is, printed)) = inl (printed_status output outcome.text outcome.status status steady printed ∙ so outcome is)

-- nothing was printed of a load that does not stop
memory_alone : (output : Output) (Outcomes : Outcome → Type 0) (status : ℕ) → ((outcome : Outcome) → Outcomes outcome → ⊥) → PrintsOneOf output Outcomes status → IsDone status
memory_alone output Outcomes status never (inl memory) = inr memory
memory_alone output Outcomes status never (inr (outcome, is, printed)) = absurd (never outcome is)

-- ---- the store

-- the recovery of a store that tells changes, and does not fail, can only want memory
pub wants_memory : Laws → (net : Net) (stored : Stored) (fault : RecoverFault) → IsSound net → IsSteady stored → TellsChanges net stored → IsNotRecovered net stored fault → fault ≡ OutOfMemory
wants_memory laws net stored (J1 number) sound steady tells failed =
    absurd (laws.no_line net tells.held tells.changes number sound tells.recovered (told stored.before tells.held (λ bytes. IsFirstNoLine net bytes number) tells.told failed.2))
wants_memory laws net stored (J2 number) sound steady tells failed =
    absurd (laws.stray net tells.held tells.changes number sound tells.recovered (told stored.before tells.held (λ bytes. IsFirstStray net bytes number) tells.told failed.2))
wants_memory laws net stored StoreFault sound steady tells failed = absurd (steady failed.1)
wants_memory laws net stored TooLong sound steady tells failed =
    let over = told stored.before tells.held (λ bytes. MOST_JOURNAL_BYTES < length bytes) tells.told failed.1 in
    let short = tells.short in
    absurd (omega (arith, over, short))
wants_memory laws net stored OutOfMemory sound steady tells failed = refl

never_named : (outcome : Outcome) → NamesRecoverFault OutOfMemory outcome → ⊥
never_named outcome names = names

pub recovery_done : Laws → (net : Net) (output : Output) (stored : Stored) (status : ℕ) → ¬ (HasFailed output) → IsSteady stored → TellsChanges net stored → EndsRecovery net output stored status → IsDone status
recovery_done laws net output stored status sink steady tells (sound, inl (changes, recovered, printed)) =
    done output (PrintsState net changes) status sink (λ outcome one. ap (λ (o : Outcome). o.status) one.printed) printed
recovery_done laws net output stored status sink steady tells (sound, inr (fault, failed, printed)) =
    let P : RecoverFault → Type 0 = λ f. PrintsOneOf output (NamesRecoverFault f) status in
    memory_alone output (NamesRecoverFault OutOfMemory) status never_named (subst P (wants_memory laws net stored fault sound steady tells failed) printed)

-- ---- runs

parts_done : (net : Net) (held : List ℕ) (items : List Item) (output : Output) (stored : Stored) (opening : List Change) (status : ℕ) (histories : List History) (events : List Event)
    → stored.before ≡ Some held → IsSteady stored → ¬ (HasFailed output) → EndsFrom net items output stored opening status histories events → IsDone status
parts_done net held items output stored opening status histories events is steady sink (inl broke) = inr broke.status_is
parts_done net held items output stored opening status histories events is steady sink (inr (inl ran)) = inl (whole_ended net items output stored opening status histories events steady ran)
parts_done net held items output stored opening status histories events is steady sink (inr (inr (inl partly))) = absurd (sink partly.failed)
parts_done net held items output stored opening status histories events is steady sink (inr (inr (inr stops))) =
    absurd (never_failed net held items output stored opening status histories events is steady stops)

pub run_done : Laws → (net : Net) (script : Script) (output : Output) (stored : Stored) (status : ℕ) (histories : List History) (events : List Event)
    → IsSound net → IsSteady stored → ¬ (HasFailed output) → TellsChanges net stored → RunsTo net script output stored status histories events → IsDone status
run_done laws net script output stored status histories events sound steady sink tells (inl early) = inr early.status_is
run_done laws net script output stored status histories events sound steady sink tells (inr (inl nothing)) =
    absurd (nothing.named (wants_memory laws net stored nothing.fault sound steady tells nothing.failed))
run_done laws net script output stored status histories events sound steady sink tells (inr (inr run)) =
    parts_done net tells.held script.items output stored run.opening status histories events tells.told steady sink run.ends
