-- What a call leaves, and what is kept of the store behind it.
use Rattle.std.proofs.Common.{◌≡◌, ℕ, false, [], ◌∷◌, ◌++◌, Result, Ok, Err, IsErr, ap, rules}
use Rattle.bt_net.specs.Network.{IsSound}
use Rattle.bt_journal.specs.declared.call.Call.{Call}
use Rattle.bt_journal.specs.declared.call.Call.TheVariants as call
use Rattle.bt_journal.specs.declared.call.Change.{Change}
use Rattle.bt_journal.specs.declared.call.Change.TheVariants as change
use Rattle.bt_journal.specs.declared.reply.Reply.{Reply}
use Rattle.bt_journal.specs.Journal.{is_made}
use Rattle.bt_history.specs.Book.{Books, Survives}
use Rattle.bt_history.specs.Causes.{IsChangeOn}
use Rattle.bt_history.specs.Machine.{ChangeStep, line_behind}
use Rattle.bt_history.specs.Records.{CrashStep, Holds, Records, Stores, call_of}
use Rattle.bt_history.specs.Store.{is_lost}
use Rattle.bt_history.proofs.Holding.{holds_same, holds_step, survives_same, survives_step}
use Rattle.bt_history.proofs.OneJournal.{AreLines}
use Rattle.bt_history.proofs.Stored.{lost_stays, told_stays}
use Rattle.bt_book.specs.Answered.{Answered, Answers}

-- where memory ran out all is as before
pub at_err : {E : Type 0} (old : Books) (caller : ℕ) (asked : Call) (result : Result Reply E) (new : Books) → IsErr result → new ≡ old → Answers old caller asked result new
at_err old caller asked (Ok _) new failed same = search rules
at_err old caller asked (Err _) new failed same = same

-- what a change leaves is what its call does
pub answered : (old : Books) (caller : ℕ) (one : Change) (reply : Reply) (new : Books) → IsChangeOn old.net one → ChangeStep old.net old.state one reply new.state → new.net ≡ old.net
    → new.history ≡ old.history ++ record { caller = caller; call = call_of one; reply = reply } ∷ [] → Stores old.net old.state.changes one reply old.told new.told old.faults new.faults
    → CrashStep (line_behind old.net old.state.changes one) reply old.told new.told old.crashes new.crashes → Answered old caller (call_of one) reply new
answered old caller (change.Edit edit) reply new on step net entry stores crash =
    record { step = record { named = on; answered = step }; net = net; entry = entry; store = stores.step; spelled = stores.spelled; crash = crash }
answered old caller (change.Install plan) reply new on step net entry stores crash =
    record { step = record { named = on; answered = step }; net = net; entry = entry; store = stores.step; spelled = stores.spelled; crash = crash }
answered old caller (change.Order order) reply new on step net entry stores crash =
    record { step = record { named = on; answered = step }; net = net; entry = entry; store = stores.step; spelled = stores.spelled; crash = crash }

-- the machine of a book
abbrev machine_of : Books → Records
machine_of book = record { net = book.net; state = book.state; history = book.history }

-- what holds of the store behind a call, and what a crash of the call leaves
pub record Keeps (old : Books) (asked : Call) (new : Books) : Type 0 where
  pub holds : Holds (machine_of new) new.told new.crashes
  pub survives : Survives old asked new

-- behind a call that the store was not asked for it is as before
same_keeps : (old : Books) (are : AreLines old.net) (caller : ℕ) (asked : Call) (reply : Reply) (new : Books) → is_made reply ≡ false → is_lost reply ≡ false → new.state ≡ old.state
    → Holds (machine_of old) old.told old.crashes → Answered old caller asked reply new → Keeps old asked new
same_keeps old are caller asked reply new none kept same holds done =
    let stays = told_stays _ reply old.told new.told old.faults new.faults none kept done.store in
    let still = done.crash.not_asked none kept in
    record {
      holds = holds_same (machine_of old) (machine_of new) old.told new.told old.crashes new.crashes done.net same (lost_stays old.history new.history _ done.entry kept) stays.0 still holds;
      survives = survives_same (machine_of old) (machine_of new) are asked old.told new.told old.crashes new.crashes old.faults new.faults done.net same still holds;
    }

-- behind a change
change_keeps : (old : Books) (are : AreLines old.net) (caller : ℕ) (one : Change) (reply : Reply) (new : Books) → IsSound old.net → Holds (machine_of old) old.told old.crashes → IsChangeOn old.net one
    → ChangeStep old.net old.state one reply new.state → new.net ≡ old.net → new.history ≡ old.history ++ record { caller = caller; call = call_of one; reply = reply } ∷ []
    → Stores old.net old.state.changes one reply old.told new.told old.faults new.faults → CrashStep (line_behind old.net old.state.changes one) reply old.told new.told old.crashes new.crashes
    → Keeps old (call_of one) new
change_keeps old are caller one reply new sound holds on step net entry stores crash = record {
  holds = holds_step (machine_of old) (machine_of new) are one caller reply old.told new.told old.crashes new.crashes old.faults new.faults sound holds on step net entry stores crash;
  survives = survives_step (machine_of old) (machine_of new) are one reply old.told new.told old.crashes new.crashes old.faults new.faults sound holds on step net stores crash;
}

-- behind each call
pub call_keeps : (old : Books) (are : AreLines old.net) (caller : ℕ) (asked : Call) (reply : Reply) (new : Books) → IsSound old.net → Holds (machine_of old) old.told old.crashes
    → Answered old caller asked reply new → Keeps old asked new
call_keeps old are caller (call.Edit edit) reply new sound holds done =
    change_keeps old are caller (change.Edit edit) reply new sound holds done.step.named done.step.answered done.net done.entry (record { step = done.store; spelled = done.spelled }) done.crash
call_keeps old are caller (call.Install plan) reply new sound holds done =
    change_keeps old are caller (change.Install plan) reply new sound holds done.step.named done.step.answered done.net done.entry (record { step = done.store; spelled = done.spelled }) done.crash
call_keeps old are caller (call.Place order) reply new sound holds done =
    change_keeps old are caller (change.Order order) reply new sound holds done.step.named done.step.answered done.net done.entry (record { step = done.store; spelled = done.spelled }) done.crash
call_keeps old are caller call.Snapshot reply new sound holds done =
    let told = done.step.answered.0.told in
    same_keeps old are caller call.Snapshot reply new (ap is_made told) (ap is_lost told) done.step.answered.1 holds done
call_keeps old are caller (call.Newest after) reply new sound holds done =
    let told = done.step.answered.0 in
    same_keeps old are caller (call.Newest after) reply new (ap is_made told) (ap is_lost told) done.step.answered.1 holds done

-- and where memory ran out
pub err_survives : (old : Books) (are : AreLines old.net) (asked : Call) (new : Books) → new ≡ old → Holds (machine_of old) old.told old.crashes → Survives old asked new
err_survives old are asked new same holds =
    survives_same (machine_of old) (machine_of new) are asked old.told new.told old.crashes new.crashes old.faults new.faults (ap (λ (b : Books). b.net) same) (ap (λ (b : Books). b.state) same)
    (ap (λ (b : Books). b.crashes) same) holds
