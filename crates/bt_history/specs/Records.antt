-- For bodies alone: what contracts see of the machine, and what is kept beside the changes.
use Rattle.std.specs.Prelude.{◌≡◌, ◌⊎◌, ℕ, ◌+◌, ◌≤◌, ◌<◌, if◌then◌else◌, Bool, true, false, List, [], ◌∷◌, ◌++◌, length, sum_by, take, Option, Some, None, IsSomeAnd}
use Rattle.bt_frame.specs.declared.limits.TheConstants.{MOST_JOURNAL_BYTES}
use Rattle.bt_outside.specs.Told.{GainsPrefix, Rose}
use Rattle.bt_outside.specs.Crash.{CouldBeLeft, Crashes, Elapses, IsSettled, LeavesOnly, LeavesSince}
use Rattle.bt_frame.specs.declared.numbers.TermNo.{TermNo}
use Rattle.bt_frame.specs.declared.limits.TheConstants.{MOST_SLOTS}
use Rattle.bt_net.specs.Network.{Net}
use Rattle.bt_demand.specs.declared.demand.Link.{Link}
use Rattle.bt_demand.specs.declared.plan.Plan.{Plan}
use Rattle.bt_demand.specs.Demand.{units_where}
use Rattle.bt_demand.specs.Traffic.{matrix_of, HasSumsTo}
use Rattle.bt_air.specs.declared.order.Order.{Order}
use Rattle.bt_journal.specs.declared.call.Call.{Call}
use Rattle.bt_journal.specs.declared.call.Call.TheVariants as call
use Rattle.bt_journal.specs.declared.call.Change.{Change}
use Rattle.bt_journal.specs.declared.call.Change.TheVariants as change
use Rattle.bt_journal.specs.declared.entry.Entry.{Entry}
use Rattle.bt_journal.specs.declared.call.Edit.{Edit}
use Rattle.bt_journal.specs.Journal.{NamesTerminals, is_refusal, is_made}
use Rattle.bt_journal.specs.JournalLines.{IsChangeInRange, edits_in}
use Rattle.bt_journal.specs.Kept.{marks_in}
use Rattle.bt_journal.specs.Mark.{mark_of}
use Rattle.bt_journal.specs.declared.reply.Reply.{Reply}
use Rattle.bt_journal.specs.declared.reply.Reply.TheVariants.{Done, NotThere, BookFull, Installed, Placed}
use Rattle.bt_journal.specs.declared.reply.Reply.TheVariants.{StoreFault as store_fault}
use Rattle.bt_history.specs.declared.fault.RecoverFault.{RecoverFault}
use Rattle.bt_history.specs.declared.fault.RecoverFault.TheVariants.{J1, J2, StoreFault, TooLong, OutOfMemory}
use Rattle.bt_history.specs.Changes.{given, taken_from, edition, held_after, plans, orders}
use Rattle.bt_history.specs.Occupancy.{HasEnds, HoldsTaken}
use Rattle.bt_history.specs.EditCauses.{IsGoodEdit}
use Rattle.bt_history.specs.Causes.{Follows, IsChangeOn, IsGood, IsCause}
use Rattle.bt_history.specs.Machine.{State, bytes_of, bytes_with, line_behind, running}
use Rattle.bt_history.specs.Recovery.{IsFirstNoLine, IsFirstStray, IsNoLine, IsStrayBehind, Recovered, marked_in_part, whole}
use Rattle.bt_history.specs.Store.{IsStored, StoreStep, is_lost, lost_of}
use Rattle.bt_history.specs.Crash.{TellsNext}

-- the network, the state of the machine, and the entries of all calls
pub record Records : Type 0 where
  pub net : Net
  pub state : State
  pub history : List Entry

-- the links have what the changes gave and did not take again
abbrev pub AddsUp : List Change → List Link → Type 0
AddsUp changes links = (test : TermNo → TermNo → Bool) → units_where test links + sum_by (taken_from test) changes ≡ sum_by (given test) changes

-- what holds of a demand beside the changes that made it
pub record KeepsUp (net : Net) (changes : List Change) (links : List Link) : Type 0 where
  pub adds_up : AddsUp changes links
  pub fits : HasSumsTo net.slots (matrix_of net links)
  pub follows : Follows net changes

-- what holds of the numbers kept beside the changes
pub record Counts (net : Net) (changes : List Change) (count edits bytes : ℕ) : Type 0 where
  pub counted : count ≡ length changes
  pub edited : edits ≡ edition changes
  pub fewer : edits ≤ count
  pub summed : bytes ≡ bytes_of net changes
  pub covered : count ≤ bytes
  pub readable : bytes ≤ MOST_JOURNAL_BYTES

-- what holds of the lists kept beside the changes
pub record Lists (changes : List Change) (installed : List Plan) (placed : List Order) : Type 0 where
  pub installs : installed ≡ plans changes
  pub places : placed ≡ orders changes

-- the answer where a link holds fewer slots than are taken from it
abbrev pub IsShortOf : List Change → TermNo → TermNo → ℕ → Option Reply → Type 0
IsShortOf changes from to units None = units ≤ held_after changes from to
IsShortOf changes from to units (Some (NotThere held)) = (held ≡ held_after changes from to) × (held < units)
IsShortOf changes from to units (Some _) = ⊥

-- the first cause of a refusal in an edit, or none where there is none
abbrev pub IsFirstEditCause : Net → List Change → Edit → Option Reply → Type 0
IsFirstEditCause net changes edit None = IsGoodEdit net changes edit
IsFirstEditCause net changes edit (Some reply) = IsCause net changes (change.Edit edit) reply

-- the refusal where the journal has no room for a line of so many bytes, and none where it has
abbrev pub IsBookFull : Net → List Change → ℕ → Option Reply → Type 0
IsBookFull net changes size None = bytes_of net changes + size ≤ net.journal
IsBookFull net changes size (Some reply) = (net.journal < bytes_of net changes + size) × (reply ≡ BookFull (bytes_of net changes))

-- the first cause of a refusal in a change, or none where there is none
abbrev pub IsFirstCause : Net → List Change → Change → Option Reply → Type 0
IsFirstCause net changes asked None = IsGood net changes asked
IsFirstCause net changes asked (Some reply) = (is_refusal reply ≡ true) × IsCause net changes asked reply

-- the change can join the others: the machine runs, the change has no cause of a refusal, and the bytes with its line are
-- no more than are read from a store
pub record CanJoin (net : Net) (old : State) (asked : Change) : Type 0 where
  pub runs : old.stopped ≡ false
  pub good : IsGood net old.changes asked
  pub room : bytes_with net old.changes asked ≤ MOST_JOURNAL_BYTES

-- the call that asks for a change
abbrev pub call_of : Change → Call
call_of (change.Edit edit) = call.Edit edit
call_of (change.Install plan) = call.Install plan
call_of (change.Order order) = call.Place order

-- a line can spell the change behind these
abbrev pub IsSpelled : Net → List Change → Change → Type 0
IsSpelled net changes one = IsChangeInRange net (edition changes + edits_in one) one

-- a line can spell the change where the store was asked to keep it
abbrev pub IsSpelledIf : Net → List Change → Change → Reply → Type 0
IsSpelledIf net changes one (Done _ _) = IsSpelled net changes one
IsSpelledIf net changes one (Installed _) = IsSpelled net changes one
IsSpelledIf net changes one Placed = IsSpelled net changes one
IsSpelledIf net changes one store_fault = IsSpelled net changes one
IsSpelledIf net changes one _ = Unit {0}

-- what the store makes of a change that is asked for behind these
pub record Stores (net : Net) (changes : List Change) (one : Change) (reply : Reply) (old new : Option (List ℕ)) (before now : ℕ) : Type 0 where
  pub step : StoreStep (line_behind net changes one) reply old new before now
  pub spelled : IsSpelledIf net changes one reply

-- What a crash leaves while a line is added behind what a settled store tells: what it told, and a first part of the line. The
-- store is settled again unless the line is lost.
pub record Endures (line : List ℕ) (lost : Bool) (told now : Option (List ℕ)) (old new : Option Crashes) : Type 0 where
  pub time : Elapses old new
  pub crash : LeavesSince old new (λ left. GainsPrefix told line (Some left))
  pub settled : lost ≡ false → IsSettled now new

-- what a crash leaves while a change is answered: the store is asked to add the line where the change is made or lost, and not
-- asked else
pub record CrashStep (line : List ℕ) (reply : Reply) (told now : Option (List ℕ)) (old new : Option Crashes) : Type 0 where
  pub asked : (is_made reply ≡ true) ⊎ (is_lost reply ≡ true) → Endures line (is_lost reply) told now old new
  pub not_asked : is_made reply ≡ false → is_lost reply ≡ false → new ≡ old

-- these are the bytes, or those up to their last newline with a first part of the mark behind them
abbrev pub IsPartMarked : Net → List ℕ → List ℕ → Type 0
IsPartMarked net bytes left = (left ≡ bytes) ⊎ ((kept : ℕ) × (left ≡ marked_in_part net kept bytes))

-- a crash at the start of a recovery could have left these bytes, or they are those that were told then, whose lines tell changes,
-- as they were or cut and marked in part
abbrev pub IsLeftOrCut : Net → Option (List ℕ) → Option Crashes → List ℕ → Type 0
IsLeftOrCut net told crashes left = CouldBeLeft crashes left ⊎ IsSomeAnd told (λ bytes. (changes : List Change) × Recovered net bytes changes × IsPartMarked net bytes left)

-- What holds of the store of a book, beside its machine: what it tells, and what a crash leaves of it. While the machine is not
-- stopped that is what it tells and nothing else.
pub record Holds (machine : Records) (told : Option (List ℕ)) (crashes : Option Crashes) : Type 0 where
  pub stored : IsStored machine.net told machine.state.changes (lost_of machine.history)
  pub sure : machine.state.stopped ≡ false → lost_of machine.history ≡ []
  pub settled : machine.state.stopped ≡ false → IsSettled told crashes
  pub leaves : LeavesOnly crashes (TellsNext machine.net machine.state.changes (lost_of machine.history))

-- the links are kept beside first changes that have so many edits among them
pub record IsRedone (net : Net) (changes : List Change) (number : ℕ) (links : List Link) : Type 0 where
  pub before : List Change
  pub after : List Change
  pub parts : changes ≡ before ++ after
  pub counted : edition before ≡ number
  pub keeps : KeepsUp net before links

-- On the way there: first changes were made again, and so many edits are left; while some are, the changes ahead are
-- all others.
pub record Redoes (net : Net) (changes ahead : List Change) (links : List Link) (number left : ℕ) : Type 0 where
  pub before : List Change
  pub after : List Change
  pub parts : changes ≡ before ++ after
  pub keeps : KeepsUp net before links
  pub counted : edition before + left ≡ number
  pub next : 0 < left → after ≡ ahead

-- what an edit that is made again asks of the demand
pub record CanRedo (net : Net) (links : List Link) (edit : Edit) : Type 0 where
  pub terminals : NamesTerminals net edit
  pub ends : HasEnds edit
  pub held : HoldsTaken links edit
  pub small : HasSumsTo MOST_SLOTS (matrix_of net links)

-- the line, its newline included, is of a change that follows these, and the machine has made it too
pub record TakesChange (net : Net) (before : List Change) (line : List ℕ) (new : State) : Type 0 where
  pub one : Change
  pub range : IsSpelled net before one
  pub spelled : line ≡ line_behind net before one
  pub on : IsChangeOn net one
  pub good : IsGood net before one
  pub after : new ≡ running (before ++ one ∷ [])

-- the line, its newline included, is the mark, behind none, and the machine is as it was
pub record TakesMark (net : Net) (old : State) (stood : Bool) (line : List ℕ) (new : State) (stands : Bool) : Type 0 where
  pub first : stood ≡ false
  pub spelled : line ≡ mark_of net
  pub after : new ≡ old
  pub marked : stands ≡ true

-- the line was taken: its change, or the mark; where it was a change, the mark stands among the lines if it stood before
abbrev pub TakesLine : Net → State → Bool → List ℕ → State → Bool → Type 0
TakesLine net old stood line new stands = (TakesChange net old.changes line new × (stands ≡ stood)) ⊎ TakesMark net old stood line new stands

-- how many marks stand, at most one
abbrev pub marks_where : Bool → ℕ
marks_where stands = if stands then 1 else 0

-- what is wrong with the line of this number, behind those of these changes, and the mark where it stands
abbrev pub IsLineFault : Net → List Change → Bool → ℕ → List ℕ → RecoverFault → Type 0
IsLineFault net before stands number line (J1 found) = (found ≡ number) × IsNoLine net line
IsLineFault net before stands number line (J2 found) = (found ≡ number) × IsStrayBehind net before (marks_where stands) line
IsLineFault net before stands number line StoreFault = ⊥
IsLineFault net before stands number line TooLong = ⊥
IsLineFault net before stands number line OutOfMemory = Unit {0}

-- why the bytes tell no changes
abbrev pub IsTextFault : Net → List ℕ → RecoverFault → Type 0
IsTextFault net bytes (J1 number) = IsFirstNoLine net bytes number
IsTextFault net bytes (J2 number) = IsFirstStray net bytes number
IsTextFault net bytes StoreFault = ⊥
IsTextFault net bytes TooLong = ⊥
IsTextFault net bytes OutOfMemory = Unit {0}

-- All lines of the bytes were taken: they tell the changes of the machine, and the mark stands among them or not. So many bytes
-- they have.
pub record TakesText (net : Net) (bytes : List ℕ) (state : State) (kept : ℕ) (stands : Bool) : Type 0 where
  pub told : Recovered net bytes state.changes
  pub marks : marks_in told.lines.said ≡ marks_where stands
  pub runs : state ≡ running state.changes
  pub kept_is : take kept bytes ≡ whole bytes
  pub within : kept ≤ length bytes

-- why a piece was not appended: the store failed, and may have kept a first part of it, or memory ran out
abbrev pub IsAppendFault : List ℕ → Option (List ℕ) → Option (List ℕ) → ℕ → ℕ → RecoverFault → Type 0
IsAppendFault piece old new before now (J1 _) = ⊥
IsAppendFault piece old new before now (J2 _) = ⊥
IsAppendFault piece old new before now StoreFault = GainsPrefix old piece new × Rose before now
IsAppendFault piece old new before now TooLong = ⊥
IsAppendFault piece old new before now OutOfMemory = new ≡ old
