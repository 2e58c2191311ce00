-- What a crash leaves of the store of a book: the changes that the next opening has.
use Rattle.std.specs.Prelude.{◌⊎◌, ℕ, List, [], ◌∷◌, ◌++◌, Option, IsSomeAnd}
use Rattle.bt_outside.specs.Crash.{CouldBeLeft, Crashes, Elapses, LeavesSince}
use Rattle.bt_net.specs.Network.{Net}
use Rattle.bt_journal.specs.declared.call.Call.{Call}
use Rattle.bt_journal.specs.declared.call.Call.TheVariants as call
use Rattle.bt_journal.specs.declared.call.Change.{Change}
use Rattle.bt_journal.specs.declared.call.Change.TheVariants as change
use Rattle.bt_history.specs.Recovery.{Recovered}
use Rattle.bt_history.specs.Store.{IsNextOpening}

-- from the bytes the next opening has these changes, or these and the one that may be there or not
abbrev pub TellsNext : Net → List Change → List Change → List ℕ → Type 0
TellsNext net changes maybe bytes = (next : List Change) × Recovered net bytes next × IsNextOpening changes maybe next

-- from the bytes the next opening has these changes at least, first of all
abbrev pub TellsAtLeast : Net → List Change → List ℕ → Type 0
TellsAtLeast net changes bytes = (more : List Change) × Recovered net bytes (changes ++ more)

-- These changes last from one moment to another: time goes on, and a crash at any moment from the one on, up to the other, leaves bytes
-- from which the next opening has them at least. Nothing more is said where crashes are not told.
pub record Last (net : Net) (changes : List Change) (old new : Option Crashes) : Type 0 where
  pub time : Elapses old new
  pub crash : LeavesSince old new (TellsAtLeast net changes)

-- the change that a call asks for, if any
abbrev pub asked_for : Call → List Change
asked_for (call.Edit edit) = change.Edit edit ∷ []
asked_for (call.Install plan) = change.Install plan ∷ []
asked_for (call.Place order) = change.Order order ∷ []
asked_for call.Snapshot = []
asked_for (call.Newest _) = []

-- the bytes tell the changes that the told ones tell
abbrev pub TellsSame : Net → Option (List ℕ) → List ℕ → Type 0
TellsSame net told left = IsSomeAnd told (λ bytes. (changes : List Change) × Recovered net bytes changes × Recovered net left changes)

-- a crash at the start of a recovery could have left these bytes, or they tell what was told then
abbrev pub IsLeftByRecovery : Net → Option (List ℕ) → Option Crashes → List ℕ → Type 0
IsLeftByRecovery net told crashes left = CouldBeLeft crashes left ⊎ TellsSame net told left
