-- What contracts see of a book, and its calls as steps of an object that a turn lock hands round.
use Rattle.std.specs.Prelude.{◌≡◌, false, true, ℕ, List, Option}
use Rattle.std.proofs.Common.{subst, sym}
use Rattle.bt_outside.specs.Crash.{Crashes, Elapses, LeavesOnly, LeavesSince}
use Rattle.bt_net.specs.Network.{Net}
use Rattle.bt_shared.specs.declared.object.TurnEntry as line
use Rattle.bt_journal.specs.declared.call.Call.{Call}
use Rattle.bt_journal.specs.declared.entry.Entry.{Entry}
use Rattle.bt_journal.specs.declared.reply.Reply.{Reply}
use Rattle.bt_history.specs.Machine.{State, Step, IsOfNetwork}
use Rattle.bt_history.specs.Recovery.{Recovered}
use Rattle.bt_history.specs.Store.{StoreStep, asked_line, lost_of}
use Rattle.bt_history.specs.Crash.{TellsNext, asked_for}

-- the network, the machine's state, the entries of all calls in order, the bytes that the store tells, its count of faults,
-- and what a crash may leave of it
pub record Books : Type 0 where
  pub net : Net
  pub state : State
  pub history : List Entry
  pub told : Option (List ℕ)
  pub faults : ℕ
  pub crashes : Option Crashes

-- What a crash leaves of a call, over which time goes on. From its start on, its end included, it leaves bytes that tell the changes from before it, or
-- these and the one that the call asks for; of a book that was stopped before it, these or these and the lost one. At its end,
-- where the book is not stopped, the bytes tell just the changes.
pub record Survives (old : Books) (asked : Call) (new : Books) : Type 0 where
  pub time : Elapses old.crashes new.crashes
  pub running : old.state.stopped ≡ false → LeavesSince old.crashes new.crashes (TellsNext old.net old.state.changes (asked_for asked))
  pub stopped : old.state.stopped ≡ true → LeavesSince old.crashes new.crashes (TellsNext old.net old.state.changes (lost_of old.history))
  pub at_end : new.state.stopped ≡ false → LeavesOnly new.crashes (λ left. Recovered new.net left new.state.changes)

-- a step of a book: the machine's step and the store's, and what a crash leaves of it; the network stays
pub record BookStep (old : Books) (asked : Call) (reply : Reply) (new : Books) : Type 0 where
  pub step : Step old.net old.state asked reply new.state
  pub net : new.net ≡ old.net
  pub store : StoreStep (asked_line old.net old.state.changes asked) reply old.told new.told old.faults new.faults
  pub crash : Survives old asked new

-- an entry as a turn lock has it
abbrev pub lock_entry : Entry → line.TurnEntry Call Reply
lock_entry entry = record { caller = entry.caller; call = entry.call; reply = entry.reply }

-- a call that names terminals of a network names those of an equal one
pub test_stays : (old new : Net) (asked : Call) → new ≡ old → IsOfNetwork old asked → IsOfNetwork new asked
test_stays old new asked same passes = subst (λ (net : Net). IsOfNetwork net asked) (sym same) passes

-- the same, with the number of the caller, which no step asks for
abbrev pub book_steps : Books → ℕ → Call → Reply → Books → Type 0
book_steps old caller asked reply new = BookStep old asked reply new

-- an entry of a turn lock as the journal has it
abbrev pub journal_entry : line.TurnEntry Call Reply → Entry
journal_entry entry = record { caller = entry.caller; call = entry.call; reply = entry.reply }
