-- How changes last over crashes, from moment to moment.
use Rattle.std.proofs.Common.{◌≡◌, ⊎_elim, Bool, true, false, List, ℕ, [], ◌∷◌, ◌++◌, Option, Some, None, refl, sym, ap, ◌∙◌, subst, append_assoc, inl, inr}
use Rattle.std.specs.Prelude.{IfSome}
use Rattle.std.proofs.lemmas.List.{append-nil}
use Rattle.bt_outside.specs.Crash.{Crashes, Elapses, LeavesOnly, LeavesSince, MayLeave}
use Rattle.bt_outside.proofs.Moments.{elapses_further, elapses_nowhere, leaves_further, leaves_now, leaves_nowhere, leaves_only_weaker, leaves_since_weaker}
use Rattle.bt_net.specs.Network.{Net}
use Rattle.bt_shared.specs.declared.object.TurnEntry as line
use Rattle.bt_shared.specs.Legal as line_legal
use Rattle.bt_journal.specs.declared.call.Call.{Call}
use Rattle.bt_journal.specs.declared.call.Change.{Change}
use Rattle.bt_journal.specs.declared.reply.Reply.{Reply}
use Rattle.bt_journal.specs.Journal.{change_made}
use Rattle.bt_history.specs.Book.{Books, Survives, book_steps}
use Rattle.bt_history.specs.Causes.{Follows}
use Rattle.bt_history.specs.Crash.{IsLeftByRecovery, Last, TellsAtLeast, TellsNext, TellsSame, asked_for}
use Rattle.bt_history.specs.Machine.{State}
use Rattle.bt_history.specs.Records.{Holds, Records}
use Rattle.bt_history.specs.Recovery.{Recovered}
use Rattle.bt_history.specs.Store.{IsStored, lost_of}
use Rattle.bt_history.proofs.Histories.{Step-adds, as_list}
use Rattle.bt_history.proofs.NextOpening.{next_opening}
use Rattle.bt_history.proofs.OneJournal.{AreLines, one_list}

-- the changes of the next opening are these at least
pub at_least : (net : Net) (changes maybe : List Change) (left : List ℕ) → TellsNext net changes maybe left → TellsAtLeast net changes left
at_least net changes maybe left (next, tells, inl is) = ([], subst (λ (c : List Change). Recovered net left c) (is ∙ sym (append-nil changes)) tells)
at_least net changes maybe left (next, tells, inr (one, lost, is)) = (one ∷ [], subst (λ (c : List Change). Recovered net left c) is tells)

-- and the first of them at least
pub at_least_first : (net : Net) (changes since : List Change) (left : List ℕ) → TellsAtLeast net (changes ++ since) left → TellsAtLeast net changes left
at_least_first net changes since left (more, tells) = (since ++ more, subst (λ (c : List Change). Recovered net left c) (append_assoc changes since more) tells)

-- changes that last so far last on
pub last_then : (net : Net) (changes : List Change) (old mid new : Option Crashes) → Last net changes old mid → Last net changes mid new → Last net changes old new
last_then net changes old mid new first then = record {
  time = elapses_further old mid new first.time then.time;
  crash = leaves_further old mid new (TellsAtLeast net changes) first.time then.time first.crash then.crash;
}

-- the first of changes that last
pub last_first : (net : Net) (changes since : List Change) (old new : Option Crashes) → Last net (changes ++ since) old new → Last net changes old new
last_first net changes since old new all = record {
  time = all.time;
  crash = leaves_since_weaker old new (TellsAtLeast net (changes ++ since)) (TellsAtLeast net changes) (at_least_first net changes since) all.crash;
}

-- what lasts up to now lasts now
pub last_now : (net : Net) (changes : List Change) (old new : Option Crashes) → Last net changes old new → Last net changes new new
last_now net changes old new so = record {
  time = elapses_nowhere new;
  crash = leaves_nowhere new (TellsAtLeast net changes) (leaves_now old new (TellsAtLeast net changes) so.time so.crash);
}

-- where a crash now leaves the changes of the next opening, they last now
pub last_here : (net : Net) (changes lost : List Change) (now : Option Crashes) → LeavesOnly now (TellsNext net changes lost) → Last net changes now now
last_here net changes lost now only = record {
  time = elapses_nowhere now;
  crash = leaves_nowhere now (TellsAtLeast net changes) (leaves_only_weaker now (TellsNext net changes lost) (TellsAtLeast net changes) (at_least net changes lost) only);
}

-- so do those of a book
pub holds_last : (machine : Records) (told : Option (List ℕ)) (crashes : Option Crashes) → Holds machine told crashes → Last machine.net machine.state.changes crashes crashes
holds_last machine told crashes holds = last_here machine.net machine.state.changes (lost_of machine.history) crashes holds.leaves

-- over a call, whether the book was stopped before it or not
call_leaves : (old new : Books) (asked : Call) (stopped : Bool) → old.state.stopped ≡ stopped → Survives old asked new → LeavesSince old.crashes new.crashes (TellsAtLeast old.net old.state.changes)
call_leaves old new asked true is so =
    leaves_since_weaker old.crashes new.crashes (TellsNext old.net old.state.changes (lost_of old.history)) (TellsAtLeast old.net old.state.changes)
    (at_least old.net old.state.changes (lost_of old.history)) (so.stopped is)
call_leaves old new asked false is so =
    leaves_since_weaker old.crashes new.crashes (TellsNext old.net old.state.changes (asked_for asked)) (TellsAtLeast old.net old.state.changes)
    (at_least old.net old.state.changes (asked_for asked)) (so.running is)

pub call_last : (old new : Books) (asked : Call) → Survives old asked new → Last old.net old.state.changes old.crashes new.crashes
call_last old new asked so = record { time = so.time; crash = call_leaves old new asked old.state.stopped refl so }

-- changes that a book begins with last over the calls that a turn lock makes on it
line_from : (net : Net) (changes since : List Change) (start end : Books) (log : List (line.TurnEntry Call Reply)) → start.net ≡ net → start.state.changes ≡ changes ++ since
    → line_legal.Legal book_steps start log end → Last net changes start.crashes start.crashes → Last net changes start.crashes end.crashes
line_from net changes since start end [] same parts legal now = subst (λ (b : Books). Last net changes start.crashes b.crashes) (sym legal) now
line_from net changes since start end (entry ∷ entries) same parts (next, (step, more)) now =
    let made = as_list (change_made entry.call entry.reply) in
    let here : Last start.net start.state.changes start.crashes next.crashes = call_last start next entry.call step.crash in
    let first : Last net changes start.crashes next.crashes =
    last_first net changes since start.crashes next.crashes
    (subst (λ (c : List Change). Last net c start.crashes next.crashes) parts (subst (λ (n : Net). Last n start.state.changes start.crashes next.crashes) same here)) in
    let then : next.state.changes ≡ changes ++ (since ++ made) =
    ap (λ (s : State). s.changes) (Step-adds start.net start.state entry.call entry.reply next.state step.step)
    ∙ ap (λ (c : List Change). c ++ made) parts ∙ append_assoc changes since made in
    last_then net changes start.crashes next.crashes end.crashes first
    (line_from net changes (since ++ made) next end entries (step.net ∙ same) then more (last_now net changes start.crashes next.crashes first))

pub line_last : (start end : Books) (log : List (line.TurnEntry Call Reply)) → Last start.net start.state.changes start.crashes start.crashes → line_legal.Legal book_steps start log end
    → Last start.net start.state.changes start.crashes end.crashes
line_last start end log now legal = line_from start.net start.state.changes [] start end log refl (sym (append-nil start.state.changes)) legal now

-- what is left tells what a store of a book told
same_tells : (net : Net) (are : AreLines net) (told : Option (List ℕ)) (changes lost : List Change) (left : List ℕ) → IfSome told (TellsNext net changes lost) → TellsSame net told left
    → TellsNext net changes lost left
same_tells net are None changes lost left next same = absurd same
same_tells net are (Some bytes) changes lost left (opens, tells, is) (mine, told, again) =
    (opens, subst (λ (c : List Change). Recovered net left c) (one_list net are bytes mine opens told tells) again, is)

-- changes that last before a recovery of a store last over it
recovery_leaves : (net : Net) (are : AreLines net) (told : Option (List ℕ)) (was will : Option Crashes) (changes lost : List Change) → IfSome told (TellsNext net changes lost)
    → LeavesOnly was (TellsNext net changes lost) → LeavesSince was will (IsLeftByRecovery net told was) → LeavesSince was will (TellsAtLeast net changes)
recovery_leaves net are told None will changes lost next only since = tt
recovery_leaves net are told (Some was) None changes lost next only since = tt
recovery_leaves net are told (Some was) (Some will) changes lost next only since = λ left may.
    ⊎_elim
    (λ (could : MayLeave was left). at_least net changes lost left (only left could))
    (λ (same : TellsSame net told left). at_least net changes lost left (same_tells net are told changes lost left next same))
    (since left may)

pub recovery_last : (net : Net) (are : AreLines net) (told : Option (List ℕ)) (was will : Option Crashes) (changes lost : List Change) → Follows net changes → IsStored net told changes lost
    → LeavesOnly was (TellsNext net changes lost) → Elapses was will → LeavesSince was will (IsLeftByRecovery net told was) → Last net changes was will
recovery_last net are told was will changes lost follow stored only time since = record {
  time = time;
  crash = recovery_leaves net are told was will changes lost (next_opening net are told changes lost follow stored) only since;
}
