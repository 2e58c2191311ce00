-- Where nothing is at fault and nothing fails, a command does its work.
use Rattle.std.specs.Prelude.{◌≡◌, ◌⊎◌, ℕ, ◌≤◌, List, length, Some}
use Rattle.bt_frame.specs.declared.limits.TheConstants.{MOST_JOURNAL_BYTES}
use Rattle.bt_net.specs.Network.{Net}
use Rattle.bt_journal.specs.declared.call.Change.{Change}
use Rattle.bt_history.specs.Recovery.{Recovered}
use Rattle.bt_report.specs.declared.status.TheConstants.{DONE, OUT_OF_MEMORY}
use Rattle.bt_report.specs.Output.{Output, HasFailed}
use Rattle.bt_report.specs.Stored.{IsSteady, Stored}
use Rattle.bt_report.specs.Input.{Input, FilesFailed}

-- neither a file nor the output nor the store failed in the call: no count of faults rose or stands at its last value
pub record NothingFails (input : Input) (output : Output) (stored : Stored) : Type 0 where
  pub files : ¬ (FilesFailed input)
  pub sink : ¬ (HasFailed output)
  pub store : IsSteady stored

-- the store is told, in no more bytes than are read, and they are a journal of changes on the network
pub record TellsChanges (net : Net) (stored : Stored) : Type 0 where
  pub held : List ℕ
  pub told : stored.before ≡ Some held
  pub short : length held ≤ MOST_JOURNAL_BYTES
  pub changes : List Change
  pub recovered : Recovered net held changes

-- all was done, or memory ran out
abbrev pub IsDone : ℕ → Type 0
IsDone status = (status ≡ DONE) ⊎ (status ≡ OUT_OF_MEMORY)
