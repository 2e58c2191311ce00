-- A caller of the book in a round: the history that its pass has seen of the round, and which entries of that are its own.
use Rattle.std.specs.Prelude.{◌≡◌, ℕ, List, map}
use Rattle.atomic_table.specs.Seated.{TableId}
use Rattle.bt_net.specs.Network.{Net}
use Rattle.bt_shared.specs.declared.object.TurnEntry as line
use Rattle.bt_shared.specs.Legal.{Legal, calls_by}
use Rattle.bt_shared.specs.Passes.{Place, IsOfLine, IsSamePass, seen_at}
use Rattle.bt_journal.specs.declared.call.Call.{Call}
use Rattle.bt_journal.specs.declared.entry.Entry.{Entry}
use Rattle.bt_journal.specs.declared.reply.Reply.{Reply}
use Rattle.bt_journal.specs.Journal.{calls_of}
use Rattle.bt_history.specs.Book.{Books, book_steps, journal_entry}
use Rattle.bt_history.specs.Causes.{Follows}
use Rattle.bt_history.specs.Machine.{State, Step, state_from}

-- a caller: the table of its line, the book at the line's start, and its place in the line
pub record Calling : Type 0 where
  pub table : TableId
  pub start : Books
  pub place : Place Books Call Reply

-- the number of the caller
abbrev pub caller_number : Calling → ℕ
caller_number caller = caller.place.me.0.number

-- the entries of one caller in the history of a line, in order
abbrev pub own_in : ℕ → List (line.TurnEntry Call Reply) → List Entry
own_in number log = map journal_entry (calls_by number log)

-- the caller's own entries in what it has seen
abbrev pub own_of : Calling → List Entry
own_of caller = own_in (caller_number caller) (seen_at caller.place)

-- The caller is one of its line. What it has seen is legal from the book at the line's start on, whose changes follow.
pub record IsCalling (caller : Calling) : Type 0 where
  pub of_line : IsOfLine caller.table caller.start caller.place
  pub begins : Follows caller.start.net caller.start.state.changes
  pub legal : (end : Books) × Legal book_steps caller.start (seen_at caller.place) end

-- the same caller later: all stays but what it has seen
pub record IsSameCaller (old new : Calling) : Type 0 where
  pub table : new.table ≡ old.table
  pub start : new.start ≡ old.start
  pub place : IsSamePass old.place new.place

-- The call was answered by a step of the machine, after changes that follow: those of the book at the line's start and of the
-- entries since. Of the caller these are just its own so far.
pub record IsAnswered (net : Net) (caller : Calling) (entry : Entry) : Type 0 where
  pub old : State
  pub new : State
  pub since : List Entry
  pub reached : old ≡ state_from caller.start.state since
  pub own : calls_of since (caller_number caller) ≡ own_of caller
  pub follows : Follows net old.changes
  pub step : Step net old entry.call entry.reply new
