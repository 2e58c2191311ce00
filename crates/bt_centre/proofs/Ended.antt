-- How the parts of a script end, from what is left of the run and from what was written.
use Rattle.std.proofs.Common.{◌≡◌, ℕ, ◌+◌, ◌<◌, ◌≤◌, get_or, inl, inr, List, [], ◌∷◌, ◌++◌, length, take, drop, reverse, All, Option, Some, None, Result, Err, IsErrOf, refl, sym, ap, ◌∙◌, subst, append_assoc, arith}
use Rattle.std.specs.Prelude.{IfSome}
use Rattle.std.specs.Option.{is_some}
use Rattle.std.proofs.Math.Seq.{take-append-add}
use Rattle.std.proofs.lemmas.List.{append-nil, take-append-drop}
use Rattle.bt_outside.specs.Crash.{Crashes}
use Rattle.bt_outside.specs.declared.sink.SinkFault.{SinkFault}
use Rattle.bt_outside.specs.declared.sink.SinkFault.TheVariants as sink
use Rattle.bt_outside.specs.Told.{GainsPrefix, Rose, gained}
use Rattle.bt_net.specs.Network.{Net}
use Rattle.bt_script.specs.declared.sites.Sites.{Sites}
use Rattle.bt_script.specs.declared.sites.Sites.TheVariants.{Together}
use Rattle.bt_air.specs.declared.event.Event.{Event}
use Rattle.bt_journal.specs.declared.call.Change.{Change}
use Rattle.bt_journal.specs.declared.entry.Entry.{Entry}
use Rattle.bt_history.specs.declared.fault.RecoverFault.{RecoverFault}
use Rattle.bt_history.specs.declared.fault.RecoverFault.TheVariants.{StoreFault}
use Rattle.bt_history.specs.Book.{Books}
use Rattle.bt_history.specs.Causes.{Follows, IsGoodForItsEdition}
use Rattle.bt_history.specs.Crash.{Last}
use Rattle.bt_history.specs.Changes.{installs}
use Rattle.bt_history.specs.Recovery.{MaybeRecovered}
use Rattle.bt_history.specs.Store.{IsKept, lost_of}
use Rattle.bt_site.specs.Event.{Opening}
use Rattle.bt_round.specs.AirLines.{events_in, opening_in}
use Rattle.bt_script.specs.declared.script.Item.{Item}
use Rattle.bt_script.specs.declared.script.Item.TheVariants as item
use Rattle.bt_timeline.specs.Timeline.{restart_line}
use Rattle.bt_centre.specs.declared.history.History.{History}
use Rattle.bt_centre.specs.Lines.{total_of}
use Rattle.bt_report.specs.Output.{Output, Prints}
use Rattle.bt_centre.specs.Progress.{Hand, IsBegun, IsLeftAtRestart, IsLeftEarly, IsLeftOf, IsLegalHand, ItemFailed, ItemPlayed, ItemsDone, ItemsWritten, Left, PartsEnded, histories_in, start_of}
use Rattle.bt_centre.specs.RecoverFaults.{PrintsNamed, recover_line, recover_status}
use Rattle.bt_centre.specs.Run.{AreLegalTimes, IsRun, LeavesStore, changes_at, entries_of, first_line, lost_in, opening_on, status_after, WritesPart, whole_text}
use Rattle.bt_round.proofs.Closing.{ran_nothing}
use Rattle.bt_centre.proofs.Going.{breaks_off, left_early, legal_times}
use Rattle.bt_centre.proofs.Restarts.{left_at_fault}
use Rattle.bt_centre.proofs.Played.{changes_are, gained-append, item_goes_further, items_begin, next_parts, same_histories, start_is}
use Rattle.bt_centre.proofs.Times.{rose_still}
use Rattle.bt_centre.specs.World.{IsSpelledWorld}

-- a first part of what comes behind a text
pub prefix_behind : (told between after : Option (List ℕ)) (text more : List ℕ) → between ≡ gained told text → GainsPrefix between more after → GainsPrefix told (text ++ more) after
prefix_behind told between after text more is (kept, wrote) = (
  length text + kept,
  wrote ∙ ap (λ (t : Option (List ℕ)). gained t (take kept more)) is ∙ gained-append told text (take kept more) ∙ ap (gained told) (sym (take-append-add text more kept)),
)

-- each plan that changes that follow install is good
abbrev pub AreGood : Net → Type 0
AreGood net = (changes : List Change) → Follows net changes → All (IsGoodForItsEdition net changes) (installs changes)

-- what the output tells, and how often it failed, from the start of a run on
abbrev pub output_of : Option (List ℕ) → Option (List ℕ) → ℕ → ℕ → Output
output_of before after faults now = record { before = before; after = after; faults_before = faults; faults_after = now }

-- these parts were run
unfoldable pub run_of : (net : Net) (sites : Sites) (begun : Books) (items : List Item) (hand : Hand) (lines : List ℕ) (histories : List History) (events : List Event) → AreGood net
    → (so : ItemsDone net sites begun items hand lines) → histories ≡ histories_in hand → events ≡ events_in hand.air
    → IsRun net sites (is_some begun.told) begun.state.changes items histories events lines
run_of net sites begun items hand lines histories events good so all same = record {
  end = so.end;
  played = so.played;
  history = all ∙ same_histories so.end hand (sym so.over_is) so.so_far.before (sym so.history_is);
  legal = subst (AreLegalTimes net (is_some begun.told) begun.state.changes so.end.opening) (sym all) (legal_times net begun so.end.opening hand so.so_far);
  events_are = same ∙ ap events_in (sym so.air_is);
  opened = ap opening_in so.air_is ∙ so.so_far.world;
  good = good (changes_at so.end) (subst (Follows net) (sym (changes_are net sites begun items hand lines so)) so.so_far.follow);
}

-- the store is left as the book says
pub left_of : (net : Net) (sites : Sites) (begun : Books) (items : List Item) (hand : Hand) (lines : List ℕ) (told : Option (List ℕ)) (faults : ℕ) (histories : List History)
    → (so : ItemsDone net sites begun items hand lines) → told ≡ hand.book.told → faults ≡ hand.book.faults → histories ≡ histories_in hand
    → IsKept hand.book.net hand.book.told hand.book.state.changes (lost_of hand.book.history)
    → LeavesStore net (record { before = begun.told; after = told; faults_before = begun.faults; faults_after = faults }) histories so.end
left_of net sites begun items hand lines told faults histories so told_is faults_are all kept = record {
  bytes = subst (λ (t : Option (List ℕ)). IsKept net t (changes_at so.end) (lost_of so.end.history)) (sym told_is)
      (subst (λ (h : List Entry). IsKept net hand.book.told (changes_at so.end) (lost_of h)) (sym so.history_is)
      (subst (λ (c : List Change). IsKept net hand.book.told c (lost_of hand.book.history)) (sym (changes_are net sites begun items hand lines so))
      (subst (λ (n : Net). IsKept n hand.book.told hand.book.state.changes (lost_of hand.book.history)) so.so_far.network kept)));
  count = rose_still (length (lost_in (histories_in hand))) (length (lost_in histories)) begun.faults hand.book.faults faults (ap (λ (l : List History). length (lost_in l)) all) so.so_far.count
      (omega (arith, faults_are));
}

-- the world in which a run stops
pub world_of : (net : Net) (begun : Books) (opening : List Change) (hand : Hand) (events : List Event) → IsLegalHand net begun opening hand → IsSpelledWorld (opening_in hand.air) (reverse events)
    → IsSpelledWorld (opening_on net begun.state.changes) (reverse events)
world_of net begun opening hand events so world = subst (λ (o : Opening). IsSpelledWorld o (reverse events)) so.world world

-- memory ran out
ended_early : (net : Net) (items : List Item) (output : Output) (begun : Books) (opening : List Change) (old : Hand) (left : Left) (status : ℕ)
    → IsLegalHand net begun opening old → IsLeftEarly old left → status ≡ 1 → PartsEnded net items output begun left status
ended_early net items output begun opening old left status so is status_is = record {
  world = world_of net begun opening old left.events so is.world;
  ends = inl (breaks_off net begun opening old left status so is status_is);
}

-- the sink failed over a text
ended_partly : (net : Net) (items first more : List Item) (output : Output) (begun : Books) (hand : Hand) (lines : List ℕ) (left : Left) (status : ℕ) → AreGood net
    → items ≡ first ++ more → (so : ItemsDone net Together begun first hand lines) → IsLeftOf hand left → Rose output.faults_before output.faults_after
    → WritesPart net (is_some begun.told) begun.state.changes first more output lines left.histories so.end → status ≡ 6 → PartsEnded net items output begun left status
unfolding run_of
ended_partly net items first more output begun hand lines left status good parts so is failed written status_is = record {
  world = world_of net begun so.end.opening hand left.events so.so_far is.world;
  ends = inr (inr (inl (record {
    first = first;
    more = more;
    lines = lines;
    parts = parts;
    run = run_of net Together begun first hand lines left.histories left.events good so is.histories is.events;
    left = left_of net Together begun first hand lines left.told left.faults left.histories so is.told is.faults is.histories is.kept;
    failed = failed;
    written = written;
    status_is = status_is;
  })));
}

-- a text was not written
pub not_written : (net : Net) (items first more : List Item) (output : Output) (begun : Books) (hand : Hand) (lines : List ℕ) (left : Left) (why : SinkFault) (status : ℕ) → AreGood net
    → items ≡ first ++ more → (so : ItemsDone net Together begun first hand lines) → IsLeftOf hand left → (why ≡ sink.Failed → Rose output.faults_before output.faults_after)
    → (why ≡ sink.Failed → WritesPart net (is_some begun.told) begun.state.changes first more output lines left.histories so.end)
    → (why ≡ sink.OutOfMemory → status ≡ 1) → (why ≡ sink.Failed → status ≡ 6) → PartsEnded net items output begun left status
not_written net items first more output begun hand lines left sink.OutOfMemory status good parts so is failed written early partly =
    ended_early net items output begun so.end.opening hand left status so.so_far (left_early net hand left so.so_far.network so.so_far.follow is) (early refl)
not_written net items first more output begun hand lines left sink.Failed status good parts so is failed written early partly =
    ended_partly net items first more output begun hand lines left status good parts so is (failed refl) (written refl) (partly refl)

-- all was written
pub ended_whole : (net : Net) (items : List Item) (output : Output) (begun : Books) (hand : Hand) (lines : List ℕ) (left : Left) (status : ℕ) → AreGood net
    → ItemsDone net Together begun items hand lines → IsLeftOf hand left → output.after ≡ gained output.before (whole_text net begun.state.changes lines left.histories)
    → status ≡ status_after left.histories → PartsEnded net items output begun left status
unfolding run_of
ended_whole net items output begun hand lines left status good so is written status_is = record {
  world = world_of net begun so.end.opening hand left.events so.so_far is.world;
  ends = inr (inl (record {
    lines = lines;
    run = run_of net Together begun items hand lines left.histories left.events good so is.histories is.events;
    left = left_of net Together begun items hand lines left.told left.faults left.histories so is.told is.faults is.histories is.kept;
    written = written;
    status_is = status_is;
  }));
}

-- of a store that tells its bytes as another does, the same holds
pub only_fault : (told other : Option (List ℕ)) (P : Type 0) → is_some told ≡ is_some other → IfSome told (λ _. P) → IfSome other (λ _. P)
only_fault (Some bytes) (Some others) P same is = is
only_fault None (Some others) P same is = absurd cc
only_fault told None P same is = tt

-- a count that rose since, and did not fall before
pub rose_from : (f0 f1 f2 : ℕ) → f0 ≤ f1 → Rose f1 f2 → Rose f0 f2
rose_from f0 f1 f2 later (inl rose) = inl (omega (arith, later, rose))
rose_from f0 f1 f2 later (inr end) = inr end

text_is : (a b c d : List ℕ) → (a ++ b) ++ (c ++ d) ≡ a ++ b ++ c ++ d
text_is a b c d = sym (append_assoc (a ++ b) c d)

-- the parts before a restart, and those behind it
parts_at : (items : List Item) (index : ℕ) (one : Item) → index < length items → one ≡ get_or items index one → one ≡ item.Restart
    → items ≡ take index items ++ item.Restart ∷ drop (index + 1) items
parts_at items index one within is restart =
    sym (take-append-drop (index + 1) items)
    ∙ ap (λ (l : List Item). l ++ drop (index + 1) items) (next_parts items index one within is)
    ∙ append_assoc (take index items) (one ∷ []) (drop (index + 1) items)
    ∙ ap (λ (x : Item). take index items ++ x ∷ drop (index + 1) items) restart

-- the line of a fault stands behind what was written before
prints_behind : (before between after : Option (List ℕ)) (f0 f1 f2 : ℕ) (front text : List ℕ) (wanted status : ℕ) → between ≡ gained before front → f0 ≤ f1
    → Prints (output_of between after f1 f2) text wanted status → Prints (output_of before after f0 f2) (front ++ text) wanted status
prints_behind before between after f0 f1 f2 front text wanted status is later (inl (wrote, same)) =
    inl (wrote ∙ ap (λ (t : Option (List ℕ)). gained t text) is ∙ gained-append before front text, same)
prints_behind before between after f0 f1 f2 front text wanted status is later (inr (failed, gains, same)) =
    inr (rose_from f0 f1 f2 later failed, prefix_behind before between after front text is gains, same)

-- the recovery at a restart failed
ended_at_restart : (net : Net) (items : List Item) (index : ℕ) (begun : Books) (old : Hand) (left : Left) (before between after : Option (List ℕ)) (f0 f1 f2 : ℕ) (fault : RecoverFault) (status : ℕ)
    → AreGood net → (parts : items ≡ take index items ++ item.Restart ∷ drop (index + 1) items) → ItemsWritten net begun (take index items) old before between → f0 ≤ f1
    → IsLeftAtRestart net old left fault → PrintsNamed (output_of between after f1 f2) restart_line fault status
    → PartsEnded net items (output_of before after f0 f2) begun left status
unfolding run_of
ended_at_restart net items index begun old left before between after f0 f1 f2 fault status good parts so later is (inl early) =
    ended_early net items (output_of before after f0 f2) begun so.done.end.opening old left status so.done.so_far (record {
      hand = old;
      goes = record { over = refl; before = refl; ran = ran_nothing old.book (subst (λ (n : Net). Follows n old.book.state.changes) (sym so.done.so_far.network) so.done.so_far.follow); world = refl };
      histories = is.histories;
      kept = is.kept;
      cut = subst (λ (n : Net). MaybeRecovered n old.book.told left.told old.book.faults left.faults) (sym so.done.so_far.network) (left_at_fault net old.book.told left.told old.book.faults left.faults fault is.failed);
      later = is.later;
      last = λ now. subst (λ (n : Net). Last n old.book.state.changes old.book.crashes left.crashes) (sym so.done.so_far.network) is.last;
      world = is.world;
    }) early
ended_at_restart net items index begun old left before between after f0 f1 f2 fault status good parts so later is (inr (named, printed)) =
    let front = first_line net Together begun.state.changes in
    record {
      world = world_of net begun so.done.end.opening old left.events so.done.so_far is.world;
      ends = inr (inr (inr (record {
        first = take index items;
        more = drop (index + 1) items;
        lines = so.lines;
        parts = parts;
        run = run_of net Together begun (take index items) old so.lines left.histories left.events good so.done is.histories is.events;
        told = old.book.told;
        faults = old.book.faults;
        left = left_of net Together begun (take index items) old so.lines old.book.told old.book.faults left.histories so.done refl refl is.histories is.kept;
        fault = fault;
        failed = is.failed;
        later = is.later;
        named = named;
        only = only_fault old.book.told begun.told (fault ≡ StoreFault) so.done.so_far.tells is.only;
        printed = subst (λ (t : List ℕ). Prints (output_of before after f0 f2) t (recover_status fault) status) (text_is front so.lines restart_line (recover_line fault))
            (prints_behind before between after f0 f1 f2 (front ++ so.lines) (restart_line ++ recover_line fault) (recover_status fault) status so.wrote later printed);
      })));
    }

-- a part could not be played
pub not_played : (net : Net) (items : List Item) (index : ℕ) (one : Item) (begun : Books) (old : Hand) (left : Left) (before between after : Option (List ℕ)) (f0 f1 f2 : ℕ) (fault : RecoverFault) (status : ℕ)
    → AreGood net → index < length items → one ≡ get_or items index one → ItemsWritten net begun (take index items) old before between → f0 ≤ f1
    → ItemFailed net one old left fault → PrintsNamed (output_of between after f1 f2) restart_line fault status
    → PartsEnded net items (output_of before after f0 f2) begun left status
not_played net items index one begun old left before between after f0 f1 f2 fault status good within is so later (inl (memory, early)) (inl status_is) =
    ended_early net items (output_of before after f0 f2) begun so.done.end.opening old left status so.done.so_far early status_is
not_played net items index one begun old left before between after f0 f1 f2 fault status good within is so later (inl (memory, early)) (inr (named, printed)) = absurd (named memory)
not_played net items index one begun old left before between after f0 f1 f2 fault status good within is so later (inr (restart, at)) printed =
    ended_at_restart net items index begun old left before between after f0 f1 f2 fault status good (parts_at items index one within is restart) so later at printed

-- the first line was not written
pub not_begun : (net : Net) (items : List Item) (hand : Hand) (left : Left) (why : SinkFault) (before after : Option (List ℕ)) (f0 f2 : ℕ) (status : ℕ) → AreGood net → IsBegun net Together hand → IsLeftOf hand left
    → (why ≡ sink.Failed → Rose f0 f2) → (why ≡ sink.Failed → GainsPrefix before (start_of hand) after) → (why ≡ sink.OutOfMemory → status ≡ 1) → (why ≡ sink.Failed → status ≡ 6)
    → PartsEnded net items (output_of before after f0 f2) hand.book left status
not_begun net items hand left why before after f0 f2 status good begun is failed gains early partly =
    not_written net items [] items (output_of before after f0 f2) hand.book hand [] left why status good refl (items_begin net Together hand begun) is failed
    (λ so. inl (refl, subst (λ (t : List ℕ). GainsPrefix before t after) (start_is net Together hand begun) (gains so))) early partly

-- a part was played, and its text was not written
pub not_shown : (net : Net) (items : List Item) (index : ℕ) (one : Item) (begun : Books) (old new : Hand) (own : List ℕ) (left : Left) (why : SinkFault) (before between after : Option (List ℕ)) (f0 f1 f2 : ℕ) (status : ℕ)
    → AreGood net → index < length items → one ≡ get_or items index one → ItemsWritten net begun (take index items) old before between → f0 ≤ f1 → ItemPlayed net one old new own → IsLeftOf new left
    → (why ≡ sink.Failed → Rose f1 f2) → (why ≡ sink.Failed → GainsPrefix between own after) → (why ≡ sink.OutOfMemory → status ≡ 1) → (why ≡ sink.Failed → status ≡ 6)
    → PartsEnded net items (output_of before after f0 f2) begun left status
not_shown net items index one begun old new own left why before between after f0 f1 f2 status good within is so later played left_is failed gains early partly =
    let further = item_goes_further net Together begun (take index items) one old new so.lines own so.done played in
    not_written net items (take index items ++ one ∷ []) (drop (index + 1) items) (output_of before after f0 f2) begun new (so.lines ++ own) left why status good
    (sym (take-append-drop (index + 1) items) ∙ ap (λ (l : List Item). l ++ drop (index + 1) items) (next_parts items index one within is))
    further.done left_is (λ stopped. rose_from f0 f1 f2 later (failed stopped))
    (λ stopped. inr (inl (record {
      whole = take index items;
      last = one;
      parts = refl;
      said = so.lines;
      own = own;
      lines_are = refl;
      before = so.done.end;
      played = so.done.played;
      goes = further.way;
      written = subst (λ (t : Option (List ℕ)). GainsPrefix t own after) so.wrote (gains stopped);
    }))) early partly

-- the last line was not written
pub not_totalled : (net : Net) (items : List Item) (begun : Books) (hand : Hand) (left : Left) (why : SinkFault) (before between after : Option (List ℕ)) (f0 f1 f2 : ℕ) (status : ℕ)
    → AreGood net → ItemsWritten net begun items hand before between → f0 ≤ f1 → IsLeftOf hand left
    → (why ≡ sink.Failed → Rose f1 f2) → (why ≡ sink.Failed → GainsPrefix between (total_of (entries_of left.histories)) after) → (why ≡ sink.OutOfMemory → status ≡ 1) → (why ≡ sink.Failed → status ≡ 6)
    → PartsEnded net items (output_of before after f0 f2) begun left status
not_totalled net items begun hand left why before between after f0 f1 f2 status good so later left_is failed gains early partly =
    let total = total_of (entries_of left.histories) in
    not_written net items items [] (output_of before after f0 f2) begun hand so.lines left why status good (sym (append-nil items)) so.done left_is (λ stopped. rose_from f0 f1 f2 later (failed stopped))
    (λ stopped. inr (inr (refl, subst (λ (t : Option (List ℕ)). GainsPrefix t total after) so.wrote (gains stopped)))) early partly

-- it was
pub totalled : (net : Net) (items : List Item) (begun : Books) (hand : Hand) (left : Left) (before between after : Option (List ℕ)) (f0 f2 : ℕ) (status : ℕ)
    → AreGood net → ItemsWritten net begun items hand before between → IsLeftOf hand left → after ≡ gained between (total_of (entries_of left.histories)) → status ≡ status_after left.histories
    → PartsEnded net items (output_of before after f0 f2) begun left status
totalled net items begun hand left before between after f0 f2 status good so left_is wrote status_is =
    let front = first_line net Together begun.state.changes in
    let total = total_of (entries_of left.histories) in
    ended_whole net items (output_of before after f0 f2) begun hand so.lines left status good so.done left_is
    (wrote ∙ ap (λ (t : Option (List ℕ)). gained t total) so.wrote ∙ gained-append before (front ++ so.lines) total) status_is

-- the same of what is given back
pub same_end : (net : Net) (items : List Item) (output : Output) (begun : Books) (left : Left) (told : Option (List ℕ)) (faults : ℕ) (crashes : Option Crashes) (histories : List History) (events : List Event) (status s : ℕ)
    → told ≡ left.told → faults ≡ left.faults → crashes ≡ left.crashes → histories ≡ left.histories → events ≡ left.events → status ≡ s → PartsEnded net items output begun left s
    → PartsEnded net items output begun (record { told = told; faults = faults; crashes = crashes; histories = histories; events = events }) status
same_end net items output begun left told faults crashes histories events status s told_is faults_are crashes_are all same status_is ended =
    subst (λ (n : ℕ). PartsEnded net items output begun (record { told = told; faults = faults; crashes = crashes; histories = histories; events = events }) n) (sym status_is)
    (subst (λ (l : Left). PartsEnded net items output begun l s) (sym (
    ap (λ (t : Option (List ℕ)). let l : Left = record { told = t; faults = faults; crashes = crashes; histories = histories; events = events } in l) told_is
    ∙ ap (λ (f : ℕ). let l : Left = record { told = left.told; faults = f; crashes = crashes; histories = histories; events = events } in l) faults_are
    ∙ ap (λ (c : Option Crashes). let l : Left = record { told = left.told; faults = left.faults; crashes = c; histories = histories; events = events } in l) crashes_are
    ∙ ap (λ (h : List History). let l : Left = record { told = left.told; faults = left.faults; crashes = left.crashes; histories = h; events = events } in l) all
    ∙ ap (λ (e : List Event). let l : Left = record { told = left.told; faults = left.faults; crashes = left.crashes; histories = left.histories; events = e } in l) same
    )) ended)

-- a failure of that kind
pub err_is : (why : SinkFault) → why ≡ sink.Failed → (let failed : Result (Unit {0}) SinkFault = Err why in IsErrOf failed sink.Failed)
err_is sink.Failed is = refl
err_is sink.OutOfMemory is = absurd cc
