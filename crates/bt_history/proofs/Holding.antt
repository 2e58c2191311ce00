-- What holds of the store of a book, and what a crash leaves of it, from call to call.
use Rattle.std.proofs.Common.{◌≡◌, ◌⊎◌, ⊎_elim, ℕ, ◌-◌, ◌^◌, ◌<◌, ◌≤◌, arith, Bool, true, false, List, [], ◌∷◌, ◌++◌, take, Option, Some, None, Err, refl, sym, ap, ◌∙◌, subst, inl, inr}
use Rattle.std.specs.Prelude.{IfSome, IsErrOf, IsSomeAnd, option_map}
use Rattle.std.proofs.lemmas.List.{append-nil}
use Rattle.bt_outside.specs.Told.{gained, GainsPrefix, Gives, HasCause, Rose, shortened}
use Rattle.bt_outside.specs.Crash.{CouldBeLeft, Crashes, Elapses, IsSettled, LeavesOnly, LeavesSince}
use Rattle.bt_outside.proofs.Moments.{elapses_nowhere, leaves_further, leaves_now, leaves_nowhere, leaves_only_weaker, leaves_since_weaker, settled_leaves}
use Rattle.bt_net.specs.Network.{Net, IsSound}
use Rattle.bt_journal.specs.declared.call.Call.{Call}
use Rattle.bt_journal.specs.declared.call.Change.{Change}
use Rattle.bt_journal.specs.declared.call.Change.TheVariants as change
use Rattle.bt_journal.specs.declared.reply.Reply.{Reply}
use Rattle.bt_journal.specs.declared.reply.Reply.TheVariants.{StoreFault}
use Rattle.bt_journal.specs.Journal.{is_made}
use Rattle.bt_history.specs.Causes.{Follows, IsChangeOn}
use Rattle.bt_history.specs.Machine.{State, line_behind, running, CanMake, ChangeStep}
use Rattle.bt_history.specs.Records.{CrashStep, Endures, Holds, IsAppendFault, IsLeftOrCut, IsPartMarked, IsSpelled, Records, Stores, call_of}
use Rattle.bt_outside.specs.declared.keeper.KeepFault.{KeepFault}
use Rattle.bt_outside.specs.declared.keeper.KeepFault.TheVariants as keep
use Rattle.bt_history.specs.Faults.{recover_fault}
use Rattle.bt_history.specs.declared.fault.RecoverFault.{RecoverFault}
use Rattle.bt_history.specs.declared.fault.RecoverFault.TheVariants.{J1, J2, StoreFault as store_fault, TooLong, OutOfMemory}
use Rattle.bt_history.specs.Recovery.{IsRecoverFault, MaybeCut, Recovered, TellsSome, mark_owed, marked_in_part, whole}
use Rattle.bt_history.specs.Store.{IsStored, is_lost, lost_of}
use Rattle.bt_history.specs.Crash.{IsLeftByRecovery, TellsNext, TellsSame, asked_for}
use Rattle.bt_history.specs.Book.{Books, Survives}
use Rattle.bt_history.proofs.Marked.{cut_or_marked, cut_or_trimmed, gained_part, part_tells}
use Rattle.bt_history.proofs.NextOpening.{next_opening}
use Rattle.bt_history.proofs.OneJournal.{AreLines}
use Rattle.bt_history.proofs.Replies.{made_no_fault, no_fault_not_lost, refusal_no_fault, refusal_not_made}
use Rattle.bt_history.proofs.Stored.{lost_grows, lost_stays, one_lost, spelled_made, stored_gains, stored_part, told_gains, told_stays}

-- what is seen of a book
abbrev pub book_of : Records → Option (List ℕ) → ℕ → Option Crashes → Books
book_of machine told faults crashes = record { net = machine.net; state = machine.state; history = machine.history; told = told; faults = faults; crashes = crashes }

-- nothing is gained with no bytes
gained-nothing : (told : Option (List ℕ)) → told ≡ gained told []
gained-nothing None = refl
gained-nothing (Some held) = ap Some (sym (append-nil held))

-- bytes that tell the changes tell these, or these and more
pub these : (net : Net) (changes maybe : List Change) (left : List ℕ) → Recovered net left changes → TellsNext net changes maybe left
these net changes maybe left tells = (changes, tells, inl refl)

-- where no change may be there beside them, the bytes tell just the changes
just_these : (net : Net) (changes : List Change) (left : List ℕ) → TellsNext net changes [] left → Recovered net left changes
just_these net changes left (next, tells, inl is) = subst (λ (l : List Change). Recovered net left l) is tells
just_these net changes left (next, tells, inr (one, none, _)) = absurd cc

-- the changes of a store that lost none follow one another
follow_stored : (net : Net) (told : Option (List ℕ)) (changes : List Change) → IsStored net told changes [] → Follows net changes
follow_stored net told changes stored = subst (Follows net) (append-nil changes) stored.follow

-- a crash of a settled store leaves just the changes
pub settled_tells : (net : Net) (are : AreLines net) (told : Option (List ℕ)) (now : Option Crashes) (changes : List Change) → IsStored net told changes [] → IsSettled told now
    → LeavesOnly now (λ left. Recovered net left changes)
settled_tells net are told now changes stored settled =
    leaves_only_weaker now (λ left. Some left ≡ told) (λ left. Recovered net left changes)
    (λ left is. just_these net changes left
    (subst (λ (t : Option (List ℕ)). IfSome t (λ bytes. TellsNext net changes [] bytes)) (sym is) (next_opening net are told changes [] (follow_stored net told changes stored) stored)))
    (settled_leaves told now settled)

-- while a line is added, a crash leaves the changes, or these and the one of the line
append_tells : (net : Net) (are : AreLines net) (told : Option (List ℕ)) (old now : Option Crashes) (changes : List Change) (one : Change) → IsSound net → IsStored net told changes []
    → IsChangeOn net one → CanMake net (running changes) one → IsSpelled net changes one → LeavesSince old now (λ left. GainsPrefix told (line_behind net changes one) (Some left))
    → LeavesSince old now (TellsNext net changes (one ∷ []))
append_tells net are told old now changes one sound stored on can spelled since =
    leaves_since_weaker old now (λ left. GainsPrefix told (line_behind net changes one) (Some left)) (TellsNext net changes (one ∷ []))
    (λ left gains. next_opening net are (Some left) changes (one ∷ []) (follow_stored net told changes stored) (stored_part net are told (Some left) changes one sound stored on can spelled gains))
    since

-- a reply that is made or lost is not one that is neither
neither : (made lost : Bool) → (made ≡ true) ⊎ (lost ≡ true) → made ≡ false → lost ≡ false → ⊥
neither made lost (inl is) none kept = let bad : true ≡ false = sym is ∙ none in cc
neither made lost (inr is) none kept = let bad : true ≡ false = sym is ∙ kept in cc

-- where a step changed neither
pub holds_same : (old new : Records) (told now : Option (List ℕ)) (was will : Option Crashes) → new.net ≡ old.net → new.state ≡ old.state → lost_of new.history ≡ lost_of old.history
    → now ≡ told → will ≡ was → Holds old told was → Holds new now will
holds_same old new told now was will net state lost same still holds = record {
  stored = rw (net, state, lost, same) holds.stored;
  sure = λ runs. lost ∙ holds.sure (sym (ap (λ (s : State). s.stopped) state) ∙ runs);
  settled = λ runs. rw (same, still) (holds.settled (sym (ap (λ (s : State). s.stopped) state) ∙ runs));
  leaves = rw (net, state, lost, still) holds.leaves;
}

-- a book that is not stopped, and has lost nothing
holds_running : (machine : Records) (are : AreLines machine.net) (told : Option (List ℕ)) (crashes : Option Crashes) → IsStored machine.net told machine.state.changes [] → lost_of machine.history ≡ []
    → IsSettled told crashes → Holds machine told crashes
holds_running machine are told crashes stored lost settled = record {
  stored = rw lost stored;
  sure = λ _. lost;
  settled = λ _. settled;
  leaves = leaves_only_weaker crashes (λ left. Recovered machine.net left machine.state.changes) (TellsNext machine.net machine.state.changes (lost_of machine.history))
      (λ left tells. these machine.net machine.state.changes (lost_of machine.history) left tells)
      (settled_tells machine.net are told crashes machine.state.changes stored settled);
}

-- what holds of the store of a book is kept by each step
pub holds_step : (old new : Records) (are : AreLines old.net) (one : Change) (caller : ℕ) (reply : Reply) (told now : Option (List ℕ)) (was will : Option Crashes) (before after : ℕ) → IsSound old.net
    → Holds old told was → IsChangeOn old.net one → ChangeStep old.net old.state one reply new.state → new.net ≡ old.net
    → new.history ≡ old.history ++ record { caller = caller; call = call_of one; reply = reply } ∷ [] → Stores old.net old.state.changes one reply told now before after
    → CrashStep (line_behind old.net old.state.changes one) reply told now was will → Holds new now will
holds_step old new are one caller reply told now was will before after sound holds on (inl halts) net grown stores crash =
    let stays = told_stays (line_behind old.net old.state.changes one) reply told now before after (ap is_made halts.told) (ap is_lost halts.told) stores.step in
    holds_same old new told now was will net halts.same (lost_stays old.history new.history _ grown (ap is_lost halts.told)) stays.0
    (crash.not_asked (ap is_made halts.told) (ap is_lost halts.told)) holds
holds_step old new are one caller reply told now was will before after sound holds on (inr (inl refused)) net grown stores crash =
    let kept = no_fault_not_lost reply (refusal_no_fault reply refused.refuses) in
    let none = refusal_not_made reply refused.refuses in
    let stays = told_stays (line_behind old.net old.state.changes one) reply told now before after none kept stores.step in
    holds_same old new told now was will net refused.same (lost_stays old.history new.history _ grown kept) stays.0 (crash.not_asked none kept) holds
holds_step old new are one caller reply told now was will before after sound holds on (inr (inr (inl full))) net grown stores crash =
    let stays = told_stays (line_behind old.net old.state.changes one) reply told now before after (ap is_made full.told) (ap is_lost full.told) stores.step in
    holds_same old new told now was will net full.same (lost_stays old.history new.history _ grown (ap is_lost full.told)) stays.0
    (crash.not_asked (ap is_made full.told) (ap is_lost full.told)) holds
holds_step old new are one caller reply told now was will before after sound holds on (inr (inr (inr (inl done)))) net grown stores crash =
    let changes = old.state.changes in
    let can = done.makes.can in
    let runs : CanMake old.net (running changes) one = record { runs = refl; good = can.good; room = can.room } in
    let none = holds.sure can.runs in
    let stored = subst (IsStored old.net told changes) none holds.stored in
    let gains = told_gains (line_behind old.net changes one) reply told now before after done.made stores.step in
    let kept = no_fault_not_lost reply (made_no_fault reply done.made) in
    let lost : lost_of new.history ≡ [] = lost_stays old.history new.history _ grown kept ∙ none in
    let more = stored_gains old.net are told now changes one sound stored on runs (spelled_made old.net changes one reply done.made stores.spelled) gains.0 in
    holds_running new (subst AreLines (sym net) are) now will (rw (net, done.makes.after) more) lost ((crash.asked (inl done.made)).settled kept)
holds_step old new are one caller reply told now was will before after sound holds on (inr (inr (inr (inr lost)))) net grown stores crash =
    let changes = old.state.changes in
    let can = lost.can in
    let runs : CanMake old.net (running changes) one = record { runs = refl; good = can.good; room = can.room } in
    let none = holds.sure can.runs in
    let stored = subst (IsStored old.net told changes) none holds.stored in
    let here : Stores old.net changes one StoreFault told now before after = subst (λ (r : Reply). Stores old.net changes one r told now before after) lost.told stores in
    let lost_is : lost_of new.history ≡ one ∷ [] =
    lost_grows old.history new.history _ (Some one) grown (one_lost one reply lost.told) ∙ ap (λ (l : List Change). l ++ one ∷ []) none in
    let endures = crash.asked (inr (ap is_lost lost.told)) in
    let leaves = leaves_now was will (TellsNext old.net changes (one ∷ [])) endures.time (append_tells old.net are told was will changes one sound stored on runs here.spelled endures.crash) in
    record {
      stored = rw (net, lost.stops, lost_is) (stored_part old.net are told now changes one sound stored on runs here.spelled here.step.0);
      sure = λ running. absurd cc;
      settled = λ running. absurd cc;
      leaves = rw (net, lost.stops, lost_is) leaves;
    }

-- the call of a change asks for that one
asks_one : (one : Change) → asked_for (call_of one) ≡ one ∷ []
asks_one (change.Edit edit) = refl
asks_one (change.Install plan) = refl
asks_one (change.Order order) = refl

-- a crash of a call that does not ask the store leaves what it left before
pub survives_same : (old new : Records) (are : AreLines old.net) (asked : Call) (told now : Option (List ℕ)) (was will : Option Crashes) (before after : ℕ) → new.net ≡ old.net → new.state ≡ old.state
    → will ≡ was → Holds old told was → Survives (book_of old told before was) asked (book_of new now after will)
survives_same old new are asked told now was will before after net state still holds =
    let changes = old.state.changes in
    let still_runs : new.state.stopped ≡ false → old.state.stopped ≡ false = λ runs. sym (ap (λ (s : State). s.stopped) state) ∙ runs in
    record {
      time = subst (λ (c : Option Crashes). Elapses was c) (sym still) (elapses_nowhere was);
      running = λ runs. subst (λ (c : Option Crashes). LeavesSince was c (TellsNext old.net changes (asked_for asked))) (sym still)
          (leaves_nowhere was (TellsNext old.net changes (asked_for asked))
          (leaves_only_weaker was (TellsNext old.net changes (lost_of old.history)) (TellsNext old.net changes (asked_for asked))
          (λ left tells. these old.net changes (asked_for asked) left (just_these old.net changes left (subst (λ (l : List Change). TellsNext old.net changes l left) (holds.sure runs) tells)))
          holds.leaves));
      stopped = λ _. subst (λ (c : Option Crashes). LeavesSince was c (TellsNext old.net changes (lost_of old.history))) (sym still)
          (leaves_nowhere was (TellsNext old.net changes (lost_of old.history)) holds.leaves);
      at_end = λ runs. rw (net, state, still) (settled_tells old.net are told was changes (subst (IsStored old.net told changes) (holds.sure (still_runs runs)) holds.stored) (holds.settled (still_runs runs)));
    }

-- what a crash leaves of a call that asks for a change
pub survives_step : (old new : Records) (are : AreLines old.net) (one : Change) (reply : Reply) (told now : Option (List ℕ)) (was will : Option Crashes) (before after : ℕ) → IsSound old.net
    → Holds old told was → IsChangeOn old.net one → ChangeStep old.net old.state one reply new.state → new.net ≡ old.net → Stores old.net old.state.changes one reply told now before after
    → CrashStep (line_behind old.net old.state.changes one) reply told now was will → Survives (book_of old told before was) (call_of one) (book_of new now after will)
survives_step old new are one reply told now was will before after sound holds on (inl halts) net stores crash =
    survives_same old new are (call_of one) told now was will before after net halts.same (crash.not_asked (ap is_made halts.told) (ap is_lost halts.told)) holds
survives_step old new are one reply told now was will before after sound holds on (inr (inl refused)) net stores crash =
    survives_same old new are (call_of one) told now was will before after net refused.same
    (crash.not_asked (refusal_not_made reply refused.refuses) (no_fault_not_lost reply (refusal_no_fault reply refused.refuses))) holds
survives_step old new are one reply told now was will before after sound holds on (inr (inr (inl full))) net stores crash =
    survives_same old new are (call_of one) told now was will before after net full.same (crash.not_asked (ap is_made full.told) (ap is_lost full.told)) holds
survives_step old new are one reply told now was will before after sound holds on (inr (inr (inr (inl done)))) net stores crash =
    let changes = old.state.changes in
    let can = done.makes.can in
    let runs : CanMake old.net (running changes) one = record { runs = refl; good = can.good; room = can.room } in
    let stored = subst (IsStored old.net told changes) (holds.sure can.runs) holds.stored in
    let spelled = spelled_made old.net changes one reply done.made stores.spelled in
    let gains = told_gains (line_behind old.net changes one) reply told now before after done.made stores.step in
    let endures = crash.asked (inl done.made) in
    let more = stored_gains old.net are told now changes one sound stored on runs spelled gains.0 in
    record {
      time = endures.time;
      running = λ _. subst (λ (l : List Change). LeavesSince was will (TellsNext old.net changes l)) (sym (asks_one one))
          (append_tells old.net are told was will changes one sound stored on runs spelled endures.crash);
      stopped = λ halted. absurd (let bad : false ≡ true = sym can.runs ∙ halted in cc);
      at_end = λ _. rw (net, done.makes.after) (settled_tells old.net are now will (changes ++ one ∷ []) more (endures.settled (no_fault_not_lost reply (made_no_fault reply done.made))));
    }
survives_step old new are one reply told now was will before after sound holds on (inr (inr (inr (inr lost)))) net stores crash =
    let changes = old.state.changes in
    let can = lost.can in
    let runs : CanMake old.net (running changes) one = record { runs = refl; good = can.good; room = can.room } in
    let stored = subst (IsStored old.net told changes) (holds.sure can.runs) holds.stored in
    let here : Stores old.net changes one StoreFault told now before after = subst (λ (r : Reply). Stores old.net changes one r told now before after) lost.told stores in
    let endures = crash.asked (inr (ap is_lost lost.told)) in
    record {
      time = endures.time;
      running = λ _. subst (λ (l : List Change). LeavesSince was will (TellsNext old.net changes l)) (sym (asks_one one))
          (append_tells old.net are told was will changes one sound stored on runs here.spelled endures.crash);
      stopped = λ halted. absurd (let bad : false ≡ true = sym can.runs ∙ halted in cc);
      at_end = λ running. absurd (let bad : true ≡ false = sym (ap (λ (s : State). s.stopped) lost.stops) ∙ running in cc);
    }

-- what holds of the store of a book that was recovered
pub holds_opened : (machine : Records) (are : AreLines machine.net) (told : Option (List ℕ)) (crashes : Option Crashes) → IsStored machine.net told machine.state.changes [] → machine.history ≡ []
    → IsSettled told crashes → Holds machine told crashes
holds_opened machine are told crashes stored none settled = holds_running machine are told crashes stored (ap lost_of none) settled

-- the first bytes, which are kept, are those up to the last newline
pub cut_is_whole : (told : Option (List ℕ)) (bytes : List ℕ) (kept : ℕ) → Gives told bytes → take kept bytes ≡ whole bytes → shortened told kept ≡ option_map whole told
cut_is_whole None bytes kept gives same = refl
cut_is_whole (Some held) bytes kept gives same = ap Some (subst (λ (b : List ℕ). take kept b ≡ whole b) gives same)

-- the bytes that were read tell what the told ones tell
pub read_tells : (net : Net) (told : Option (List ℕ)) (bytes : List ℕ) (changes : List Change) → Gives told bytes → Recovered net bytes changes → IfSome told (λ held. Recovered net held changes)
read_tells net None bytes changes gives tells = tt
read_tells net (Some held) bytes changes gives tells = subst (λ (b : List ℕ). Recovered net b changes) gives tells

-- and it tells some
pub tells_some : (net : Net) (told : Option (List ℕ)) (changes : List Change) → IfSome told (λ held. Recovered net held changes) → TellsSome net told
tells_some net None changes tells = tt
tells_some net (Some held) changes tells = (changes, tells)

-- what a crash leaves of a recovery that only reads
pub left_by_read : (net : Net) (told : Option (List ℕ)) (old new : Option Crashes) → LeavesSince old new (CouldBeLeft old) → LeavesSince old new (IsLeftOrCut net told old)
left_by_read net told old new since = leaves_since_weaker old new (CouldBeLeft old) (IsLeftOrCut net told old) (λ left could. inl could) since

-- the bytes of which the changes were told, or these cut
is_cut : (net : Net) (told : Option (List ℕ)) (changes : List Change) (left : List ℕ) → IfSome told (λ bytes. Recovered net bytes changes)
    → (Some left ≡ told) ⊎ (Some left ≡ option_map whole told) → IsSomeAnd told (λ bytes. (c : List Change) × Recovered net bytes c × IsPartMarked net bytes left)
is_cut net None changes left tells (inl is) = absurd cc
is_cut net None changes left tells (inr is) = absurd cc
is_cut net (Some bytes) changes left tells (inl is) = (changes, tells, inl cc)
is_cut net (Some bytes) changes left tells (inr is) =
    let cut : left ≡ whole bytes = cc in
    (changes, tells, inr (0, cut ∙ sym (append-nil (whole bytes))))

-- and of one that reads and then cuts
pub left_by_cut : (net : Net) (told : Option (List ℕ)) (old mid new : Option Crashes) (changes : List Change) → IfSome told (λ bytes. Recovered net bytes changes) → Elapses old mid → Elapses mid new
    → LeavesSince old mid (CouldBeLeft old) → LeavesSince mid new (λ left. (Some left ≡ told) ⊎ (Some left ≡ option_map whole told)) → LeavesSince old new (IsLeftOrCut net told old)
left_by_cut net told old mid new changes tells first then read cut =
    leaves_further old mid new (IsLeftOrCut net told old) first then (left_by_read net told old mid read)
    (leaves_since_weaker mid new (λ left. (Some left ≡ told) ⊎ (Some left ≡ option_map whole told)) (IsLeftOrCut net told old) (λ left either. inr (is_cut net told changes left tells either)) cut)

-- the bytes of which the changes were told, cut and marked in part
is_marked : (net : Net) (told : Option (List ℕ)) (bytes piece : List ℕ) (changes : List Change) (left : List ℕ) → IfSome told (λ held. Recovered net held changes) → Gives told bytes
    → piece ≡ mark_owed net bytes → GainsPrefix (option_map whole told) piece (Some left) → IsSomeAnd told (λ held. (c : List Change) × Recovered net held c × IsPartMarked net held left)
is_marked net None bytes piece changes left tells gives is gains = absurd (let bad = gains.1 in cc)
is_marked net (Some held) bytes piece changes left tells gives is gains =
    let there : Some left ≡ Some (marked_in_part net gains.0 held) = gains.1 ∙ gained_part net (Some held) bytes piece gains.0 gives is in
    let marks : left ≡ marked_in_part net gains.0 held = cc in
    (changes, tells, inr (gains.0, marks))

-- and of one that reads, cuts and then appends the mark
pub left_by_mark : (net : Net) (told : Option (List ℕ)) (bytes piece : List ℕ) (old mid new : Option Crashes) (changes : List Change) → IfSome told (λ held. Recovered net held changes) → Gives told bytes
    → piece ≡ mark_owed net bytes → Elapses old mid → Elapses mid new → LeavesSince old mid (IsLeftOrCut net told old)
    → LeavesSince mid new (λ left. GainsPrefix (option_map whole told) piece (Some left)) → LeavesSince old new (IsLeftOrCut net told old)
left_by_mark net told bytes piece old mid new changes tells gives is first then cut mark =
    leaves_further old mid new (IsLeftOrCut net told old) first then cut
    (leaves_since_weaker mid new (λ left. GainsPrefix (option_map whole told) piece (Some left)) (IsLeftOrCut net told old)
    (λ left gains. inr (is_marked net told bytes piece changes left tells gives is gains)) mark)

-- a count that rose in the later part rose
rose_later : (before mid now : ℕ) → before ≤ mid → Rose mid now → Rose before now
rose_later before mid now later rose = ⊎_elim
    (λ (more : mid < now). inl (omega (arith, later, more)))
    (λ (last : 2 ^ 64 - 1 ≤ now). inr last)
    rose

-- what a recovery says whose append of the mark failed
pub mark_fault : (net : Net) (told : Option (List ℕ)) (bytes piece : List ℕ) (cut new : Option (List ℕ)) (before mid now : ℕ) (fault : RecoverFault) → TellsSome net told → Gives told bytes
    → piece ≡ mark_owed net bytes → cut ≡ option_map whole told → before ≤ mid → IsAppendFault piece cut new mid now fault → IsRecoverFault net told new before now fault
mark_fault net told bytes piece cut new before mid now (J1 number) tells gives is cut_is later failed = absurd failed
mark_fault net told bytes piece cut new before mid now (J2 number) tells gives is cut_is later failed = absurd failed
mark_fault net told bytes piece cut new before mid now store_fault tells gives is cut_is later failed =
    let gains = failed.0 in
    let there : new ≡ option_map (marked_in_part net gains.0) told =
    gains.1 ∙ (ap (λ (t : Option (List ℕ)). gained t (take gains.0 piece)) cut_is ∙ gained_part net told bytes piece gains.0 gives is) in
    (inr ((gains.0, there), tells), rose_later before mid now later failed.1)
mark_fault net told bytes piece cut new before mid now TooLong tells gives is cut_is later failed = absurd failed
mark_fault net told bytes piece cut new before mid now OutOfMemory tells gives is cut_is later failed = inr (failed ∙ cut_is, tells)

-- what an append that failed says
pub append_fault : {T : Type 0} (piece : List ℕ) (old new : Option (List ℕ)) (before now : ℕ) (fault : KeepFault) → (IsErrOf {T = T} (Err fault) keep.Failed → GainsPrefix old piece new)
    → (IsErrOf {T = T} (Err fault) keep.OutOfMemory → new ≡ old) → (IsErrOf {T = T} (Err fault) keep.TooLong → ⊥) → HasCause {T = T} keep.Failed before now (Err fault)
    → IsAppendFault piece old new before now (recover_fault fault)
append_fault piece old new before now keep.Failed failed memory long cause = (failed refl, cause.failed refl)
append_fault piece old new before now keep.TooLong failed memory long cause = absurd (long refl)
append_fault piece old new before now keep.OutOfMemory failed memory long cause = memory refl

-- what a recovery says whose cut failed
pub cut_fault : {T : Type 0} (net : Net) (told new held : Option (List ℕ)) (before mid now : ℕ) (fault : KeepFault) → TellsSome net told → held ≡ told → before ≤ mid → MaybeCut held new
    → (IsErrOf {T = T} (Err fault) keep.TooLong → ⊥) → HasCause {T = T} keep.Failed mid now (Err fault) → IsRecoverFault net told new before now (recover_fault fault)
cut_fault net told new held before mid now keep.Failed tells same later cut long cause =
    (cut_or_marked net told new tells (subst (λ (t : Option (List ℕ)). MaybeCut t new) same cut), rose_later before mid now later (cause.failed refl))
cut_fault net told new held before mid now keep.TooLong tells same later cut long cause = absurd (long refl)
cut_fault net told new held before mid now keep.OutOfMemory tells same later cut long cause = cut_or_trimmed net told new tells (subst (λ (t : Option (List ℕ)). MaybeCut t new) same cut)

-- where nothing is cut
pub left_uncut : (told : Option (List ℕ)) (now : Option Crashes) → IsSettled told now → LeavesSince now now (λ left. (Some left ≡ told) ⊎ (Some left ≡ option_map whole told))
left_uncut told now settled =
    leaves_nowhere now (λ left. (Some left ≡ told) ⊎ (Some left ≡ option_map whole told))
    (leaves_only_weaker now (λ left. Some left ≡ told) (λ left. (Some left ≡ told) ⊎ (Some left ≡ option_map whole told)) (λ left is. inl is) (settled_leaves told now settled))

-- what is told, cut and marked in part, tells the same
cut_tells : (net : Net) (are : AreLines net) (told : Option (List ℕ)) (left : List ℕ)
    → IsSomeAnd told (λ bytes. (c : List Change) × Recovered net bytes c × IsPartMarked net bytes left) → TellsSame net told left
cut_tells net are None left none = none
cut_tells net are (Some bytes) left (changes, tells, inl is) = (changes, tells, subst (λ (b : List ℕ). Recovered net b changes) (sym is) tells)
cut_tells net are (Some bytes) left (changes, tells, inr (kept, is)) =
    (changes, tells, subst (λ (b : List ℕ). Recovered net b changes) (sym is) (part_tells net are bytes changes kept tells))

-- so a crash of a recovery leaves what it could have left before, or what tells the same
pub left_by_recovery : (net : Net) (are : AreLines net) (told : Option (List ℕ)) (old new : Option Crashes) → LeavesSince old new (IsLeftOrCut net told old)
    → LeavesSince old new (IsLeftByRecovery net told old)
left_by_recovery net are told old new since =
    leaves_since_weaker old new (IsLeftOrCut net told old) (IsLeftByRecovery net told old)
    (λ left either. ⊎_elim (λ could. inl could) (λ cut. inr (cut_tells net are told left cut)) either) since

-- what a crash leaves while a settled store is asked for nothing
pub endures_nowhere : (line : List ℕ) (lost : Bool) (told : Option (List ℕ)) (now : Option Crashes) → IsSettled told now → Endures line lost told told now now
endures_nowhere line lost told now settled = record {
  time = elapses_nowhere now;
  crash = leaves_nowhere now (λ left. GainsPrefix told line (Some left))
      (leaves_only_weaker now (λ left. Some left ≡ told) (λ left. GainsPrefix told line (Some left)) (λ left is. (0, is ∙ gained-nothing told)) (settled_leaves told now settled));
  settled = λ _. settled;
}

-- the store was asked to add the line, and the change was made or lost
pub asked_step : {other : List ℕ} (line : List ℕ) (reply : Reply) (told now : Option (List ℕ)) (was will : Option Crashes) → line ≡ other → (is_made reply ≡ true) ⊎ (is_lost reply ≡ true)
    → Endures line (is_lost reply) told now was will → CrashStep other reply told now was will
asked_step line reply told now was will is either endures = record {
  asked = λ _. subst (λ (l : List ℕ). Endures l (is_lost reply) told now was will) is endures;
  not_asked = λ none kept. absurd (neither (is_made reply) (is_lost reply) either none kept);
}
