-- What the store of a book tells: the lines of its changes, and maybe a first part of the line of one change more, at which
-- it failed.
use Rattle.std.specs.Prelude.{◌≡◌, ◌⊎◌, ℕ, ◌+◌, ◌-◌, ◌^◌, ◌≤◌, Bool, true, false, if◌then◌else◌, List, [], ◌∷◌, ◌++◌, length, take, Option, None, IfSome}
use Rattle.std.specs.List.{filter_map}
use Rattle.bt_outside.specs.Told.{gained, GainsPrefix, Rose}
use Rattle.bt_net.specs.Network.{Net}
use Rattle.bt_journal.specs.declared.call.Call.{Call}
use Rattle.bt_journal.specs.declared.call.Call.TheVariants as call
use Rattle.bt_journal.specs.declared.call.Change.{Change}
use Rattle.bt_journal.specs.declared.call.Change.TheVariants as change
use Rattle.bt_journal.specs.declared.entry.Entry.{Entry}
use Rattle.bt_journal.specs.declared.reply.Reply.{Reply}
use Rattle.bt_journal.specs.declared.reply.Reply.TheVariants.{Done, Installed, Placed, StoreFault}
use Rattle.bt_journal.specs.Journal.{change_asked}
use Rattle.bt_journal.specs.Kept.{Keeps}
use Rattle.bt_history.specs.Causes.{Follows}
use Rattle.bt_history.specs.Machine.{line_behind}
use Rattle.bt_history.specs.Recovery.{AreInRange, IsReadable}

-- the line of the change that a call asks for, behind these changes; none where it asks for none
abbrev pub asked_line : Net → List Change → Call → List ℕ
asked_line net changes (call.Edit edit) = line_behind net changes (change.Edit edit)
asked_line net changes (call.Install plan) = line_behind net changes (change.Install plan)
asked_line net changes (call.Place order) = line_behind net changes (change.Order order)
asked_line net changes call.Snapshot = []
asked_line net changes (call.Newest after) = []

-- What the store tells after a call, and its count of faults: it gains the line where the change was made, and a first part
-- of it, maybe all, where the store failed; else both stay.
abbrev pub StoreStep : List ℕ → Reply → Option (List ℕ) → Option (List ℕ) → ℕ → ℕ → Type 0
StoreStep line (Done _ _) old new before now = (new ≡ gained old line) × (before ≤ now)
StoreStep line (Installed _) old new before now = (new ≡ gained old line) × (before ≤ now)
StoreStep line Placed old new before now = (new ≡ gained old line) × (before ≤ now)
StoreStep line StoreFault old new before now = GainsPrefix old line new × Rose before now
StoreStep line _ old new before now = (new ≡ old) × (now ≡ before)

-- the reply says that the store did not keep the change
abbrev pub is_lost : Reply → Bool
is_lost StoreFault = true
is_lost _ = false

-- the change that a call with this reply lost, if any
abbrev pub change_lost : Call → Reply → Option Change
change_lost asked reply = if is_lost reply then change_asked asked else None

-- the changes that answered a fault of the store; behind the first of them each change that is asked for is answered Stopped
abbrev pub lost_of : List Entry → List Change
lost_of history = filter_map (λ entry. change_lost entry.call entry.reply) history

-- the bytes told keep the changes, and behind those stands a first part of the line of the lost change, maybe all of it
abbrev pub IsKept : Net → Option (List ℕ) → List Change → List Change → Type 0
IsKept net told changes [] = IfSome told (λ bytes. Keeps net bytes changes)
IsKept net told changes (one ∷ _) = IfSome told (λ bytes. (lines : List ℕ) × (kept : ℕ) × Keeps net lines changes × (bytes ≡ lines ++ take kept (line_behind net changes one)))

-- beside that: at most one change is lost, it could be made, each line can be spelled, and no more bytes are told than are
-- read from a store
pub record IsStored (net : Net) (told : Option (List ℕ)) (changes lost : List Change) : Type 0 where
  pub kept : IsKept net told changes lost
  pub one : length lost ≤ 1
  pub follow : Follows net (changes ++ lost)
  pub ranges : AreInRange net 0 (changes ++ lost)
  pub readable : IsReadable told

-- the changes of the next opening: these, or these and the lost one
abbrev pub IsNextOpening : List Change → List Change → List Change → Type 0
IsNextOpening changes lost next = (next ≡ changes) ⊎ ((one : Change) × (lost ≡ one ∷ []) × (next ≡ changes ++ one ∷ []))

-- the count rose by so much at least, or stands at the end of its type
abbrev pub RoseBy : ℕ → ℕ → ℕ → Type 0
RoseBy n before now = (before + n ≤ now) ⊎ (2 ^ 64 - 1 ≤ now)
