-- For bodies alone: what a call leaves of the machine, and of the store in which it keeps the lines of the changes.
use Rattle.std.specs.Prelude.{◌≡◌, ℕ, List, [], ◌∷◌, ◌++◌, Option, Result, IfSome, MatchResult}
use Rattle.bt_outside.specs.Crash.{Crashes}
use Rattle.bt_journal.specs.declared.call.Call.{Call}
use Rattle.bt_journal.specs.declared.reply.Reply.{Reply}
use Rattle.bt_journal.specs.Journal.{change_asked}
use Rattle.bt_history.specs.Book.{Books}
use Rattle.bt_history.specs.Machine.{Step}
use Rattle.bt_history.specs.Records.{CrashStep, IsSpelledIf, Records}
use Rattle.bt_history.specs.Store.{StoreStep, asked_line}

-- a machine and what is seen of its store, as a book
abbrev pub with_store : Records → Option (List ℕ) → ℕ → Option Crashes → Books
with_store machine told faults crashes = record { net = machine.net; state = machine.state; history = machine.history; told = told; faults = faults; crashes = crashes }

-- The call was answered: the machine and the store made their steps, and the entry stands behind those before it. Where the
-- store was asked to keep a change, a line can spell that.
pub record Answered (old : Books) (caller : ℕ) (asked : Call) (reply : Reply) (new : Books) : Type 0 where
  pub step : Step old.net old.state asked reply new.state
  pub net : new.net ≡ old.net
  pub entry : new.history ≡ old.history ++ record { caller = caller; call = asked; reply = reply } ∷ []
  pub store : StoreStep (asked_line old.net old.state.changes asked) reply old.told new.told old.faults new.faults
  pub spelled : IfSome (change_asked asked) (λ one. IsSpelledIf old.net old.state.changes one reply)
  pub crash : CrashStep (asked_line old.net old.state.changes asked) reply old.told new.told old.crashes new.crashes

-- it was answered, or memory ran out and all is as before
abbrev pub Answers : {E : Type 0} → Books → ℕ → Call → Result Reply E → Books → Type 0
Answers old caller asked result new = MatchResult result (λ reply. Answered old caller asked reply new) (λ _. new ≡ old)
