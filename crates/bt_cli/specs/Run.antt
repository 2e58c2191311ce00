-- `run NET SCRIPT JOURNAL`: the network is loaded, then the script, and then it is run from the changes that the store tells.
use Rattle.std.specs.Prelude.{◌≡◌, ◌≢◌, ℕ, List, [], Some}
use Rattle.bt_net.specs.Network.{Net, IsSound}
use Rattle.bt_air.specs.declared.event.Event.{Event}
use Rattle.bt_script.specs.declared.script.Script.{Script}
use Rattle.bt_report.specs.declared.status.TheConstants.{OUT_OF_MEMORY}
use Rattle.bt_centre.specs.declared.history.History.{History}
use Rattle.bt_report.specs.Output.{Output}
use Rattle.bt_centre.specs.Run.{RunsTo}
use Rattle.bt_report.specs.Stored.{IsAsGiven, Stored}
use Rattle.bt_load.specs.Kinds.{network_file, script_file}
use Rattle.bt_report.specs.Outcome.{Outcome}
use Rattle.bt_load.specs.Loaders.{Loader, and_then, file}

-- what the top call gives back beside the store: the status, and the histories and the events of a run
pub record End : Type 0 where
  pub status : ℕ
  pub histories : List History
  pub events : List Event

-- no run was begun: there are no histories and no events, and the store is as it was given
pub record BeginsNoRun (stored : Stored) (end : End) : Type 0 where
  pub histories : end.histories ≡ []
  pub events : end.events ≡ []
  pub store : IsAsGiven stored

-- the network is loaded, and then the script
abbrev pub script_files : List ℕ → List ℕ → Loader (Net × Script)
script_files net script = and_then (file network_file net) (λ network. file (script_file network) script)

-- the script was run on its network, which is sound
abbrev pub HasRun : Net → Script → Output → Stored → End → Type 0
HasRun net script output stored end = IsSound net × RunsTo net script output stored end.status end.histories end.events

-- a sink that did not fail: it told nothing before, and tells this text
abbrev pub sink_with : List ℕ → Output
sink_with text = record { before = Some []; after = Some text; faults_before = 0; faults_after = 0 }

-- What a run prints and the status that it ends with, where memory does not run out and the sink takes all: the text of a whole run,
-- the line of a first recovery that failed, or the text of a run up to a restart whose recovery failed, with the line of that.
pub record PrintsRun (net : Net) (script : Script) (stored : Stored) (outcome : Outcome) : Type 0 where
  pub sound : IsSound net
  pub histories : List History
  pub events : List Event
  pub ends : RunsTo net script (sink_with outcome.text) stored outcome.status histories events
  pub memory : outcome.status ≢ OUT_OF_MEMORY
