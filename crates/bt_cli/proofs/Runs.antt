-- What a run and a replay come to is one of their outcomes, printed.
use Rattle.std.proofs.Common.{◌≡◌, ◌≢◌, ℕ, ◌++◌, Bool, true, false, if◌then◌else◌, inl, inr, refl, ◌∙◌, sym, List, []}
use Rattle.bt_net.specs.Network.{Net, IsSound}
use Rattle.bt_script.specs.declared.sites.Sites.TheVariants.{Together}
use Rattle.bt_air.specs.declared.event.Event.{Event}
use Rattle.bt_script.specs.declared.script.Script.{Script}
use Rattle.bt_history.specs.declared.fault.RecoverFault.{RecoverFault}
use Rattle.bt_history.specs.declared.fault.RecoverFault.TheVariants.{J1, J2, StoreFault, TooLong, OutOfMemory}
use Rattle.bt_timeline.specs.Timeline.{restart_line}
use Rattle.bt_report.specs.declared.status.TheConstants.{DONE, OUT_OF_MEMORY, STORE_FAILED}
use Rattle.bt_centre.specs.declared.history.History.{History}
use Rattle.bt_report.specs.Output.{Output}
use Rattle.bt_centre.specs.RecoverFaults.{PrintsFault, recover_line, recover_status}
use Rattle.bt_centre.specs.Run.{EndsFrom, RunsFrom, RunsNothing, RunsTo, RunsToRestart, RunsWhole, first_line, has_lost, status_after, whole_text}
use Rattle.bt_report.specs.Stored.{Stored}
use Rattle.bt_report.specs.Outcome.{PrintsOneOf, text_alone}
use Rattle.bt_cli.specs.Replay.{EndsRecovery, NamesRecoverFault, PrintsJournal, PrintsState}
use Rattle.bt_cli.specs.Run.{PrintsRun, sink_with}
use Rattle.bt_report.proofs.Reports.{PrintsOneOf-among}
use Rattle.bt_cli.proofs.Finished.{PrintsOrFails}

-- a recovery that failed, but for want of memory, has a status that is not that of want of memory
named_status : (fault : RecoverFault) → fault ≢ OutOfMemory → recover_status fault ≢ 1
named_status (J1 line) named is = cc
named_status (J2 line) named is = cc
named_status StoreFault named is = cc
named_status TooLong named is = cc
named_status OutOfMemory named is = absurd (named refl)

seven_or_none : (lost : Bool) → (let status : ℕ = if lost then STORE_FAILED else DONE in status ≡ OUT_OF_MEMORY) → ⊥
seven_or_none true is = cc
seven_or_none false is = cc

-- and neither has a run that came to its end
ended_status : (histories : List History) → status_after histories ≢ 1
ended_status histories = seven_or_none (has_lost histories)

-- a run that was printed with a fault, or whose text could not be written
faulted : (net : Net) (script : Script) (output : Output) (stored : Stored) (text : List ℕ) (fault : RecoverFault) (status : ℕ) (histories : List History) (events : List Event)
    → IsSound net → fault ≢ OutOfMemory → (PrintsFault (sink_with (text ++ recover_line fault)) text fault status → RunsTo net script (sink_with (text ++ recover_line fault)) stored status histories events)
    → PrintsFault output text fault status → PrintsOrFails output (PrintsRun net script stored) status
faulted net script output stored text fault status histories events sound named ends (inl (wrote, is)) =
    inr (inr (
      text_alone (text ++ recover_line fault) status,
      record { sound = sound; histories = histories; events = events; ends = ends (inl (refl, is)); memory = λ one. named_status fault named (sym is ∙ one) },
      inl (wrote, refl),
    ))
faulted net script output stored text fault status histories events sound named ends (inr (failed, part, six)) = inl six

-- the first recovery failed
nothing_reported : (net : Net) (script : Script) (output : Output) (stored : Stored) (status : ℕ) (histories : List History) (events : List Event) → IsSound net
    → RunsNothing net output stored status histories events → PrintsOrFails output (PrintsRun net script stored) status
nothing_reported net script output stored status histories events sound ran =
    faulted net script output stored [] ran.fault status histories events sound ran.named
    (λ printed. inr (inl (record { fault = ran.fault; failed = ran.failed; named = ran.named; none = ran.none; printed = printed })))
    ran.printed

-- a run from the changes that were recovered, over a sink that takes all
from_these : (net : Net) (script : Script) (output : Output) (text : List ℕ) (stored : Stored) (status : ℕ) (histories : List History) (events : List Event) → (ran : RunsFrom net script output stored status histories events)
    → EndsFrom net script.items (sink_with text) stored ran.opening status histories events → RunsTo net script (sink_with text) stored status histories events
from_these net script output text stored status histories events ran ends =
    inr (inr (record { opening = ran.opening; opens = ran.opens; world = ran.world; safe = ran.safe; ends = ends }))

-- it came to its end
whole_reported : (net : Net) (script : Script) (output : Output) (stored : Stored) (status : ℕ) (histories : List History) (events : List Event) → IsSound net
    → (ran : RunsFrom net script output stored status histories events) → RunsWhole net script.items output stored ran.opening status histories events → PrintsOrFails output (PrintsRun net script stored) status
whole_reported net script output stored status histories events sound ran whole =
    let text = whole_text net ran.opening whole.lines histories in
    let ends = from_these net script output text stored status histories events ran (inr (inl (record { lines = whole.lines; run = whole.run; left = whole.left; written = refl; status_is = whole.status_is }))) in
    inr (inr (
      text_alone text status,
      record { sound = sound; histories = histories; events = events; ends = ends; memory = λ one. ended_status histories (sym whole.status_is ∙ one) },
      inl (whole.written, refl),
    ))

-- or to a restart whose recovery failed
restart_reported : (net : Net) (script : Script) (output : Output) (stored : Stored) (status : ℕ) (histories : List History) (events : List Event) → IsSound net
    → (ran : RunsFrom net script output stored status histories events) → RunsToRestart net script.items output stored ran.opening status histories events → PrintsOrFails output (PrintsRun net script stored) status
restart_reported net script output stored status histories events sound ran stops =
    let text = first_line net Together ran.opening ++ stops.lines ++ restart_line in
    faulted net script output stored text stops.fault status histories events sound stops.named
    (λ printed. from_these net script output (text ++ recover_line stops.fault) stored status histories events ran (inr (inr (inr (record {
      first = stops.first;
      more = stops.more;
      lines = stops.lines;
      parts = stops.parts;
      run = stops.run;
      told = stops.told;
      faults = stops.faults;
      left = stops.left;
      fault = stops.fault;
      failed = stops.failed;
      later = stops.later;
      named = stops.named;
      only = stops.only;
      printed = printed;
    })))))
    stops.printed

parts_reported : (net : Net) (script : Script) (output : Output) (stored : Stored) (status : ℕ) (histories : List History) (events : List Event) → IsSound net
    → (ran : RunsFrom net script output stored status histories events) → EndsFrom net script.items output stored ran.opening status histories events → PrintsOrFails output (PrintsRun net script stored) status
parts_reported net script output stored status histories events sound ran (inl broke) = inr (inl broke.status_is)
parts_reported net script output stored status histories events sound ran (inr (inl whole)) = whole_reported net script output stored status histories events sound ran whole
parts_reported net script output stored status histories events sound ran (inr (inr (inl partly))) = inl partly.status_is
parts_reported net script output stored status histories events sound ran (inr (inr (inr stops))) = restart_reported net script output stored status histories events sound ran stops

-- what a run comes to is one of its outcomes, printed, where the sink did not fail
pub run_reported : (net : Net) (script : Script) (output : Output) (stored : Stored) (status : ℕ) (histories : List History) (events : List Event) → IsSound net
    → RunsTo net script output stored status histories events → PrintsOrFails output (PrintsRun net script stored) status
run_reported net script output stored status histories events sound (inl early) = inr (inl early.status_is)
run_reported net script output stored status histories events sound (inr (inl nothing)) = nothing_reported net script output stored status histories events sound nothing
run_reported net script output stored status histories events sound (inr (inr ran)) = parts_reported net script output stored status histories events sound ran ran.ends

-- so is what a replay comes to
pub recovery_reported : (net : Net) (output : Output) (stored : Stored) (status : ℕ) → EndsRecovery net output stored status → PrintsOneOf output (PrintsJournal stored net) status
recovery_reported net output stored status (sound, inl (changes, recovered, printed)) =
    PrintsOneOf-among output (PrintsState net changes) (PrintsJournal stored net) (λ outcome so. (sound, inl (changes, recovered, so))) status printed
recovery_reported net output stored status (sound, inr (fault, failed, printed)) =
    PrintsOneOf-among output (NamesRecoverFault fault) (PrintsJournal stored net) (λ outcome so. (sound, inr (fault, failed, so))) status printed
