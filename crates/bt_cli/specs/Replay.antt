-- `replay NET JOURNAL`: the network is loaded, then the store is recovered, and what its journal comes to is printed.
use Rattle.std.specs.Prelude.{◌≡◌, ℕ, ◌⊎◌, List, [], length, IfSome, option_map}
use Rattle.bt_net.specs.Network.{Net, IsSound}
use Rattle.bt_demand.specs.declared.demand.Link.{Link}
use Rattle.bt_journal.specs.declared.call.Change.{Change}
use Rattle.bt_history.specs.declared.fault.RecoverFault.{RecoverFault}
use Rattle.bt_history.specs.declared.fault.RecoverFault.TheVariants.{OutOfMemory}
use Rattle.bt_history.specs.Changes.{edition, newest, orders, IsDemandAfter}
use Rattle.bt_history.specs.Recovery.{IsReadable, IsRecoverFault, Recovered, marked}
use Rattle.bt_timeline.specs.Replayed.{replay_lines}
use Rattle.bt_report.specs.declared.status.TheConstants.{DONE}
use Rattle.bt_report.specs.Output.{Output}
use Rattle.bt_centre.specs.RecoverFaults.{recover_status, recover_words}
use Rattle.bt_report.specs.Stored.{IsAsGiven, Stored}
use Rattle.bt_load.specs.Kinds.{network_file}
use Rattle.bt_report.specs.Faults.{SaysFaultyWords}
use Rattle.bt_report.specs.Outcome.{Outcome, PrintsOneOf, Says, text_alone}
use Rattle.bt_report.specs.Input.{Input}
use Rattle.bt_load.specs.Loaders.{file}
use Rattle.bt_cli.specs.Command.{EndsBy}
use Rattle.bt_cli.specs.Request.{Request, ReplayJournal}
use Rattle.bt_cli.specs.Run.{End}

-- the fault of a recovery is named; want of memory is no such fault
abbrev pub NamesRecoverFault : RecoverFault → Outcome → Type 0
NamesRecoverFault OutOfMemory outcome = ⊥
NamesRecoverFault fault outcome = Says (recover_words fault) (recover_status fault) outcome

-- the lines of what these changes come to, with the links of the demand after them, and nothing else
pub record PrintsState (net : Net) (changes : List Change) (outcome : Outcome) : Type 0 where
  pub links : List Link
  pub demand : IsDemandAfter changes links
  pub printed : outcome ≡ text_alone (replay_lines net (edition changes) (newest changes) (length (orders changes)) links) DONE

-- the changes are those that the store told, in no more bytes than are read; what stood behind their last line is cut, and the mark
-- appended where it is owed
pub record IsRecovered (net : Net) (stored : Stored) (changes : List Change) : Type 0 where
  pub told : IfSome stored.before (λ bytes. Recovered net bytes changes)
  pub readable : IsReadable stored.before
  pub left : stored.after ≡ option_map (marked net) stored.before

-- the recovery of the store failed so
abbrev pub IsNotRecovered : Net → Stored → RecoverFault → Type 0
IsNotRecovered net stored fault = IsRecoverFault net stored.before stored.after stored.faults_before stored.faults_after fault

-- the store was recovered, and what its journal comes to was printed
abbrev pub EndsRecovered : Net → Output → Stored → ℕ → Type 0
EndsRecovered net output stored status = (changes : List Change) × IsRecovered net stored changes × PrintsOneOf output (PrintsState net changes) status

-- its recovery failed, and the fault was printed
abbrev pub EndsUnrecovered : Net → Output → Stored → ℕ → Type 0
EndsUnrecovered net output stored status = (fault : RecoverFault) × IsNotRecovered net stored fault × PrintsOneOf output (NamesRecoverFault fault) status

-- on a sound network the store was recovered, or was not
abbrev pub EndsRecovery : Net → Output → Stored → ℕ → Type 0
EndsRecovery net output stored status = IsSound net × (EndsRecovered net output stored status ⊎ EndsUnrecovered net output stored status)

-- a replay ended so, and nothing was run
pub record HasReplayed (net : Net) (output : Output) (stored : Stored) (end : End) : Type 0 where
  pub histories : end.histories ≡ []
  pub events : end.events ≡ []
  pub ends : EndsRecovery net output stored end.status

-- a program that ran nothing ends with this status
abbrev pub without_run : ℕ → End
without_run status = record { status = status; histories = []; events = [] }

-- the network was loaded, and then the store was recovered; or why it could not be loaded was printed, and the store is
-- as it was given
abbrev pub EndsReplay : Input → Output → Stored → List ℕ → ℕ → Type 0
EndsReplay input output stored net status = EndsBy (file network_file net) HasReplayed input output stored (without_run status)

-- the same for the words of a replay; for words of no command the store is as it was given
abbrev pub EndsReplayWords : Input → Output → Stored → Request → ℕ → Type 0
EndsReplayWords input output stored (ReplayJournal net _) status = EndsReplay input output stored net status
EndsReplayWords input output stored _ status = IsAsGiven stored × PrintsOneOf output SaysFaultyWords status

-- the text of what the store's journal comes to
abbrev pub PrintsRecovered : Stored → Net → Outcome → Type 0
PrintsRecovered stored net outcome = (changes : List Change) × IsRecovered net stored changes × PrintsState net changes outcome

-- the line of its fault
abbrev pub PrintsUnrecovered : Stored → Net → Outcome → Type 0
PrintsUnrecovered stored net outcome = (fault : RecoverFault) × IsNotRecovered net stored fault × NamesRecoverFault fault outcome

-- on a sound network one of these
abbrev pub PrintsJournal : Stored → Net → Outcome → Type 0
PrintsJournal stored net outcome = IsSound net × (PrintsRecovered stored net outcome ⊎ PrintsUnrecovered stored net outcome)
