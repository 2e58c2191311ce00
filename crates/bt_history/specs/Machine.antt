-- The desk machine: its state is the list of changes made so far, and whether it is stopped. `docs/machines.md` has its
-- table.
use Rattle.std.specs.Prelude.{◌≡◌, ◌⊎◌, ℕ, ◌+◌, ◌<◌, ◌≤◌, ◌||◌, if◌then◌else◌, nat_lt, Bool, true, false, List, [], ◌∷◌, ◌++◌, length, Option, Some, None}
use Rattle.std.specs.List.{list_any}
use Rattle.bt_frame.specs.declared.numbers.EditionNo.{EditionNo}
use Rattle.bt_frame.specs.declared.schedule.Critical.{Critical}
use Rattle.bt_net.specs.Network.{Net}
use Rattle.bt_net.specs.Terminals.{IsBetweenTerminals}
use Rattle.bt_matrix.specs.Traffic.{IsHeaviest}
use Rattle.bt_demand.specs.declared.demand.Link.{Link}
use Rattle.bt_demand.specs.declared.plan.Plan.{Plan}
use Rattle.bt_demand.specs.declared.verdict.Verdict.TheVariants.{V7}
use Rattle.bt_journal.specs.declared.call.Call.{Call}
use Rattle.bt_journal.specs.declared.call.Call.TheVariants as call
use Rattle.bt_journal.specs.declared.call.Change.{Change}
use Rattle.bt_journal.specs.declared.call.Change.TheVariants as change
use Rattle.bt_journal.specs.declared.entry.Entry.{Entry}
use Rattle.bt_journal.specs.declared.reply.Reply.{Reply}
use Rattle.bt_journal.specs.declared.reply.Reply.TheVariants.{Done, RowFull, ColumnFull, BookFull, NotGood, Demand, Installed, Newest, Placed, StoreFault, Stopped}
use Rattle.bt_journal.specs.Journal.{changes_of, is_made, is_refusal, is_fault}
use Rattle.bt_journal.specs.JournalLines.{change_line, journal_lines}
use Rattle.bt_history.specs.Changes.{edits_in, edition, matrix_after, IsDemandAfter, newest}
use Rattle.bt_history.specs.Causes.{IsGood, IsCause, IsChangeOn}

-- the changes made so far, and whether a fault of the store has stopped the machine
pub record State : Type 0 where
  pub changes : List Change
  pub stopped : Bool

-- these changes, and the machine is not stopped
abbrev pub running : List Change → State
running changes = record { changes = changes; stopped = false }

-- the same changes, and the machine is stopped
abbrev pub halted : State → State
halted old = record { changes = old.changes; stopped = true }

-- the state after these entries: with the changes that their calls made, and stopped where a fault of the store was told
abbrev pub state_from : State → List Entry → State
state_from old history = record { changes = old.changes ++ changes_of history; stopped = old.stopped || list_any (λ entry. is_fault entry.reply) history }

-- the state after a history that begins with these opening changes
abbrev pub state_after : List Change → List Entry → State
state_after opening history = state_from (running opening) history

-- the line of a change behind these changes, its newline included: that of an edit carries the edition that it makes
abbrev pub line_behind : Net → List Change → Change → List ℕ
line_behind net changes one = change_line net (edition changes + edits_in one) one

-- how many bytes the lines of these changes have
abbrev pub bytes_of : Net → List Change → ℕ
bytes_of net changes = length (journal_lines net changes)

-- how many bytes they have with the line of one change more
abbrev pub bytes_with : Net → List Change → Change → ℕ
bytes_with net changes one = bytes_of net changes + length (line_behind net changes one)

-- the plan, where its edition is greater than this one
abbrev pub newer_than : EditionNo → Plan → Option Plan
newer_than after plan = if nat_lt after.0 plan.edition.0 then Some plan else None

-- the greatest line sum of the traffic matrix after these changes
abbrev pub IsGreatestSum : Net → List Change → ℕ → Type 0
IsGreatestSum net changes most = (line : Critical) × IsHeaviest (matrix_after net changes) line most

-- the change can be made: the machine runs, the change has no cause of a refusal, and the journal has room for its line
pub record CanMake (net : Net) (old : State) (asked : Change) : Type 0 where
  pub runs : old.stopped ≡ false
  pub good : IsGood net old.changes asked
  pub room : bytes_with net old.changes asked ≤ net.journal

-- the change was made: it could be, and it stands behind the changes before it
pub record Makes (net : Net) (old : State) (asked : Change) (new : State) : Type 0 where
  pub can : CanMake net old asked
  pub after : new ≡ running (old.changes ++ asked ∷ [])

-- the answer to a change that was made: an edit's edition and the heaviest line's slots, or a plan's edition
abbrev pub Tells : Net → List Change → Change → Reply → Type 0
Tells net changes (change.Edit edit) (Done number most) = (number.0 ≡ edition changes) × IsGreatestSum net changes most
Tells net changes (change.Install plan) (Installed number) = number ≡ plan.edition
Tells net changes (change.Order order) Placed = Unit {0}
Tells net changes asked _ = ⊥

-- the machine is stopped, and nothing changes
pub record IsHalted (old : State) (reply : Reply) (new : State) : Type 0 where
  pub stopped : old.stopped ≡ true
  pub told : reply ≡ Stopped
  pub same : new ≡ old

-- the change is refused for its first cause, and nothing changes
pub record IsRefused (net : Net) (old : State) (asked : Change) (reply : Reply) (new : State) : Type 0 where
  pub runs : old.stopped ≡ false
  pub refuses : is_refusal reply ≡ true
  pub cause : IsCause net old.changes asked reply
  pub same : new ≡ old

-- the change has no cause of a refusal, but the journal has no room for its line, and nothing changes
pub record IsFull (net : Net) (old : State) (asked : Change) (reply : Reply) (new : State) : Type 0 where
  pub runs : old.stopped ≡ false
  pub good : IsGood net old.changes asked
  pub no_room : net.journal < bytes_with net old.changes asked
  pub told : reply ≡ BookFull (bytes_of net old.changes)
  pub same : new ≡ old

-- the change is made
pub record IsDone (net : Net) (old : State) (asked : Change) (reply : Reply) (new : State) : Type 0 where
  pub made : is_made reply ≡ true
  pub makes : Makes net old asked new
  pub told : Tells net new.changes asked reply

-- the change could be made, but the store did not keep it, and stops the machine
pub record IsLost (net : Net) (old : State) (asked : Change) (reply : Reply) (new : State) : Type 0 where
  pub can : CanMake net old asked
  pub told : reply ≡ StoreFault
  pub stops : new ≡ halted old

-- the answer to a change that is asked for, and the state after it, a line for each row of the table
abbrev pub ChangeStep : Net → State → Change → Reply → State → Type 0
ChangeStep net old asked reply new =
    IsHalted old reply new
    ⊎ IsRefused net old asked reply new
    ⊎ IsFull net old asked reply new
    ⊎ IsDone net old asked reply new
    ⊎ IsLost net old asked reply new

-- each terminal and each beam that the call names is one of the network's, and an Arm is due when it can be
abbrev pub IsOfNetwork : Net → Call → Type 0
IsOfNetwork net (call.Edit edit) = IsChangeOn net (change.Edit edit)
IsOfNetwork net (call.Install plan) = IsChangeOn net (change.Install plan)
IsOfNetwork net (call.Place order) = IsChangeOn net (change.Order order)
IsOfNetwork net call.Snapshot = Unit {0}
IsOfNetwork net (call.Newest after) = Unit {0}

-- the demand as it is, with the last edition and that of the newest plan
pub record IsSnapshot (old : State) (reply : Reply) : Type 0 where
  pub number : EditionNo
  pub links : List Link
  pub told : reply ≡ Demand number (newest old.changes).edition links
  pub last : number.0 ≡ edition old.changes
  pub demand : IsDemandAfter old.changes links

-- the answer to a call, and the state after it: what only asks is always answered, and changes nothing
abbrev pub CallStep : Net → State → Call → Reply → State → Type 0
CallStep net old call.Snapshot reply new = IsSnapshot old reply × (new ≡ old)
CallStep net old (call.Newest after) reply new = (reply ≡ Newest (newer_than after (newest old.changes))) × (new ≡ old)
CallStep net old (call.Edit edit) reply new = ChangeStep net old (change.Edit edit) reply new
CallStep net old (call.Install plan) reply new = ChangeStep net old (change.Install plan) reply new
CallStep net old (call.Place order) reply new = ChangeStep net old (change.Order order) reply new

-- a step of the machine: a call of the network, its reply, and the states before and after
pub record Step (net : Net) (old : State) (asked : Call) (reply : Reply) (new : State) : Type 0 where
  pub named : IsOfNetwork net asked
  pub answered : CallStep net old asked reply new

-- the machine in this state answers each entry's call by its reply, and goes on with the state that the step left
abbrev pub AreSteps : Net → State → List Entry → Type 0
AreSteps net old [] = Unit {0}
AreSteps net old (entry ∷ entries) = (new : State) × Step net old entry.call entry.reply new × AreSteps net new entries

-- the history is legal after these opening changes: the machine that made them, and is not stopped, can give all its replies
abbrev pub Legal : Net → List Change → List Entry → Type 0
Legal net opening history = AreSteps net (running opening) history

-- each beam that the reply names is one of the network's, and so is each terminal that its verdict names
abbrev pub NamesBeams : Net → Reply → Type 0
NamesBeams net (RowFull beam _) = beam.0 < length net.beams
NamesBeams net (ColumnFull beam _) = beam.0 < length net.beams
NamesBeams net (NotGood (V7 from to _ _)) = IsBetweenTerminals net from to
NamesBeams net _ = Unit {0}
