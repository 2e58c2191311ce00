-- What comes of a command: what it loads, and what finishes it with the value that is loaded.
use Rattle.std.specs.Prelude.{◌≡◌, ◌⊎◌, ℕ, List, Option, Some, None}
use Rattle.bt_net.specs.Network.{Net}
use Rattle.bt_report.specs.declared.status.TheConstants.{OUT_OF_MEMORY}
use Rattle.bt_report.specs.Input.{FilesFailed, Input}
use Rattle.bt_report.specs.Outcome.{Outcome, PrintsOneOf}
use Rattle.bt_report.specs.Output.{Output}
use Rattle.bt_report.specs.Stored.{IsSteady, Stored}
use Rattle.bt_load.specs.Choice.{AreAlike, Choice}
use Rattle.bt_load.specs.Loaders.{Loader, Loads}
use Rattle.bt_cli.specs.Complete.{IsDone, TellsChanges}
use Rattle.bt_cli.specs.Run.{BeginsNoRun, End}

-- What finishes a command: the answer is one of these outcomes, and no store is asked for; or it works over a store, which has changes
-- on this network, so that it ends in this way, and by what the store tells with one of these outcomes.
pub data Finish (Value : Type 0) : Type 1 where
  Answer : (Value → Outcome → Type 0) → Finish Value
  OverStore : (Value → Net) → (Value → Output → Stored → End → Type 0) → (Stored → Value → Outcome → Type 0) → Finish Value

-- A command: the value that it loads, its loads, what finishes it, and which of its reports may stand for one another.
pub data Command : Type 1 where
  Does : (Value : Type 0) → Loader Value → Finish Value → Choice → Command

abbrev pub command : {Value : Type 0} → Loader Value → Finish Value → Choice → Command
command {Value} loads finish choice = Does Value loads finish choice

-- ---- how a command ends

-- the loads stop, that is printed, and no run is begun; or they give a value, and the command ends with it
abbrev pub EndsBy : {Value : Type 0} → Loader Value → (Value → Output → Stored → End → Type 0) → Input → Output → Stored → End → Type 0
EndsBy {Value} loads Finishes input output stored end =
    (BeginsNoRun stored end × PrintsOneOf output (loads.stops input.told (FilesFailed input)) end.status)
    ⊎ ((value : Value) × loads.gives input.told value × Finishes value output stored end)

-- one of these outcomes is printed, and no run is begun
abbrev pub PrintsAlone : {Value : Type 0} → (Value → Outcome → Type 0) → Value → Output → Stored → End → Type 0
PrintsAlone Tells value output stored end = BeginsNoRun stored end × PrintsOneOf output (Tells value) end.status

-- it ends so with the value
abbrev pub Finishes : {Value : Type 0} → Finish Value → Value → Output → Stored → End → Type 0
Finishes (Answer Told) = PrintsAlone Told
Finishes (OverStore net_of Ends Told) = Ends

-- how a command ends
abbrev pub EndsAs : Command → Input → Output → Stored → End → Type 0
EndsAs (Does Value loads finish choice) = EndsBy loads (Finishes finish)

-- ---- what it may print

-- the outcomes of what finishes it, by what the store tells
abbrev pub Tells : {Value : Type 0} → Finish Value → Stored → Value → Outcome → Type 0
Tells (Answer Told) stored = Told
Tells (OverStore net_of Ends Told) stored = Told stored

-- the outcomes of a command: its loads stop with them, or it is finished with them
abbrev pub ReportsAs : Command → (List ℕ → Option (List ℕ)) → Type 0 → Stored → Outcome → Type 0
ReportsAs (Does Value loads finish choice) told failed stored = Loads loads (Tells finish stored) told failed

-- what finishes it asks for no store
abbrev pub IsAlone : {Value : Type 0} → Finish Value → Type 0
IsAlone (Answer Told) = Unit {0}
IsAlone (OverStore net_of Ends Told) = ⊥

abbrev pub AsksNone : Command → Type 0
AsksNone (Does Value loads finish choice) = IsAlone finish

-- what a store is to a command that asks for none
abbrev pub no_store : Stored
no_store = record { before = None; after = None; faults_before = 0; faults_after = 0 }

-- ---- one report

-- the files that it reads are told
abbrev pub NeedsAs : Command → (List ℕ → Option (List ℕ)) → Type 0
NeedsAs (Does Value loads finish choice) told = loads.needs told

-- two of its reports are one
abbrev pub IsOneAs : Command → Outcome → Outcome → Type 0
IsOneAs (Does Value loads finish choice) a b = AreAlike choice a b

-- the store tells the same bytes at the start of two calls, and fails in neither
pub record IsOneStore (one other : Stored) : Type 0 where
  pub held : List ℕ
  pub told : one.before ≡ Some held
  pub also : other.before ≡ Some held
  pub steady : IsSteady one
  pub steadily : IsSteady other

-- where the command asks for a store
abbrev pub FindsOneStore : {Value : Type 0} → Finish Value → Stored → Stored → Type 0
FindsOneStore (Answer Told) one other = Unit {0}
FindsOneStore (OverStore net_of Ends Told) one other = IsOneStore one other

abbrev pub OneStoreAs : Command → Stored → Stored → Type 0
OneStoreAs (Does Value loads finish choice) one other = FindsOneStore finish one other

-- ---- sound input

-- The status is that of one of the outcomes; where the command asks for a store, which tells changes, all was done, or memory ran out.
abbrev pub ServesWith : {Value : Type 0} → Finish Value → Stored → Value → ℕ → Type 0
ServesWith (Answer Told) stored value status = (outcome : Outcome) × Told value outcome × (status ≡ outcome.status)
ServesWith (OverStore net_of Ends Told) stored value status = TellsChanges (net_of value) stored → IsDone status

-- With which status a command ends in a call in which nothing fails, where nothing is at fault in the files that it reads: memory
-- ran out, or they give a value, and the status is that of what finishes the command with it.
abbrev pub ServesAs : Command → (List ℕ → Option (List ℕ)) → Stored → ℕ → Type 0
ServesAs (Does Value loads finish choice) told stored status =
    loads.sound told → (status ≡ OUT_OF_MEMORY) ⊎ ((value : Value) × loads.gives told value × ServesWith finish stored value status)
