-- How a session ends, from what is left of the run and from what was said.
use Rattle.std.proofs.Common.{◌≡◌, ℕ, ◌+◌, ◌≤◌, Bool, false, Result, Err, inl, inr, List, [], ◌∷◌, ◌++◌, length, reverse, Option, Some, None, refl, sym, ap, ◌∙◌, subst, arith}
use Rattle.std.specs.Prelude.{IfSome, option_map}
use Rattle.std.specs.Option.{is_some}
use Rattle.std.proofs.lemmas.List.{append-nil}
use Rattle.bt_outside.specs.declared.sink.SinkFault.{SinkFault}
use Rattle.bt_outside.specs.declared.sink.SinkFault.TheVariants as sink
use Rattle.bt_outside.specs.Crash.{Crashes}
use Rattle.bt_outside.specs.Told.{GainsPrefix, HasCause, Rose, gained}
use Rattle.bt_outside.specs.declared.source.Incoming.{Incoming}
use Rattle.bt_outside.specs.declared.source.SourceFault.{SourceFault}
use Rattle.bt_outside.specs.declared.source.SourceFault.TheVariants as source
use Rattle.bt_outside.specs.Input.{Comes, given_by, said_by}
use Rattle.bt_outside.specs.Talk.{Shown, Turn, Heard, Said, heard, said, took}
use Rattle.bt_net.specs.Network.{Net}
use Rattle.bt_script.specs.declared.sites.Sites.{Sites}
use Rattle.bt_air.specs.declared.event.Event.{Event}
use Rattle.bt_journal.specs.declared.call.Change.{Change}
use Rattle.bt_journal.specs.declared.entry.Entry.{Entry}
use Rattle.bt_history.specs.declared.fault.RecoverFault.{RecoverFault}
use Rattle.bt_history.specs.declared.fault.RecoverFault.TheVariants.{StoreFault}
use Rattle.bt_history.specs.Book.{Books}
use Rattle.bt_history.specs.Causes.{Follows}
use Rattle.bt_history.specs.Crash.{Last}
use Rattle.bt_history.specs.Store.{IsKept, lost_of}
use Rattle.bt_history.specs.Recovery.{IsReadable, MaybeRecovered, Recovered, marked}
use Rattle.bt_script.specs.declared.script.Item.{Item}
use Rattle.bt_script.specs.declared.script.Item.TheVariants as item
use Rattle.bt_talk.specs.declared.block.Step.{Step}
use Rattle.bt_talk.specs.declared.block.Step.TheVariants as step
use Rattle.bt_talk.specs.Answers.{answer_of, ready_line}
use Rattle.bt_talk.specs.Asked.{Came, row_behind, timed_behind}
use Rattle.bt_talk.specs.Blocks.{Open, line_bytes, row_of}
use Rattle.bt_talk.specs.Clock.{TicksAll, TicksIf}
use Rattle.bt_timeline.specs.Timeline.{restart_line}
use Rattle.bt_report.specs.Stored.{Stored}
use Rattle.bt_centre.specs.declared.history.History.{History}
use Rattle.bt_centre.specs.declared.session.InputEnd.{InputEnd}
use Rattle.bt_centre.specs.declared.session.InputEnd.TheVariants as ending
use Rattle.bt_centre.specs.Answering.{GaveSince, LastsIn, SaysNamed, SessionDone, SessionEnded, SessionGoing, SessionHeard, SessionSaid, StepFailed, StepPlayed, Took}
use Rattle.bt_centre.specs.Progress.{Hand, IsBegun, IsLeftAtRestart, IsLeftEarly, IsLeftOf, IsOpenFault, ItemsDone, Left, start_of}
use Rattle.bt_centre.specs.RecoverFaults.{recover_line, recover_status}
use Rattle.bt_centre.specs.Run.{AreFew, AreLegalTimes, at_start, changes_at, lost_in, opening_on}
use Rattle.bt_centre.specs.Session.{AllGiven, Exchange, GoesOnFrom, IsSession, LastToEnd, PlaysLines, SessionEndsFrom, SessionFrom, SessionTo, ShowsChanges, StopsHearing, StopsTurns, WereGiven, WereTold, came_in, closing_text, heard_in, session_turns, shown_behind, status_behind, told_in, told_list}
use Rattle.bt_centre.specs.Talked.{Says, SaysOrNot, SaysPart, Talked, behind}
use Rattle.bt_round.proofs.Closing.{ran_nothing}
use Rattle.bt_centre.proofs.Going.{breaks_off, left_early}
use Rattle.bt_centre.proofs.Ended.{AreGood, left_of, only_fault, output_of, rose_from, run_of, world_of}
use Rattle.bt_centre.proofs.Ends.{AreFlown, AreSafe, frames_safe, leaves_from, run_over, stored_from}
use Rattle.bt_centre.proofs.Restarts.{left_at_fault, left_unopened, named_fault, tells_marked}
use Rattle.bt_centre.proofs.Played.{changes_are}
use Rattle.bt_centre.proofs.Sessions.{Given, Moments, answer_is, came_count, gave_more, gave_none, heard_more, last_further, opening_is, row_is, session_begins, session_goes_on, session_turns_more, start_shown, ticks_append, ticks_if, ticks_more, took-nil, took_end, took_heard, took_none, took_same}
use Rattle.bt_centre.proofs.Times.{rose_since}

-- what a talk tells, from the start of a session on
abbrev pub talk_of : Option (List ℕ) → ℕ → ℕ → Option (List ℕ) → Option (List ℕ) → ℕ → ℕ → Option (List Turn) → Option (List Turn) → Moments → Moments → Shown → Talked
talk_of coming u0 u2 before after f0 f2 t0 t2 m0 m2 s = record { coming = coming; unheard_before = u0; unheard_after = u2; output = output_of before after f0 f2; turns_before = t0; turns_after = t2; moments_before = m0; moments_after = m2; store = s }

-- a piece over which the sink failed, behind turns that were taken before
pub part_behind : (turns : List Turn) (piece : List ℕ) (coming : Option (List ℕ)) (u0 u2 : ℕ) (before between after : Option (List ℕ)) (f0 f1 f2 : ℕ) (t0 t1 t2 : Option (List Turn)) (m0 m2 : Moments) (s : Shown)
    → Took turns before between t0 t1 → f0 ≤ f1 → Rose f1 f2 → GainsPrefix between piece after → t2 ≡ t1 → SaysPart (behind (talk_of coming u0 u2 before after f0 f2 t0 t2 m0 m2 s) turns) piece
part_behind turns piece coming u0 u2 before between after f0 f1 f2 t0 t1 t2 m0 m2 s so later rose gains same = record {
  failed = rose_from f0 f1 f2 later rose;
  wrote = subst (λ (t : Option (List ℕ)). GainsPrefix t piece after) so.wrote gains;
  turn = same ∙ so.turn;
}

-- a piece that was said, or over which the sink failed, behind turns that were taken before
pub says_behind : (turns : List Turn) (piece : List ℕ) (wanted status : ℕ) (coming now : Option (List ℕ)) (u0 u1 u2 : ℕ) (before between after : Option (List ℕ)) (f0 f1 f2 : ℕ) (t0 t1 t2 : Option (List Turn)) (m0 m2 : Moments) (s : Shown)
    → Took turns before between t0 t1 → f0 ≤ f1 → Says (talk_of now u1 u2 between after f1 f2 t1 t2 None None s) piece wanted status
    → Says (behind (talk_of coming u0 u2 before after f0 f2 t0 t2 m0 m2 s) turns) piece wanted status
says_behind turns piece wanted status coming now u0 u1 u2 before between after f0 f1 f2 t0 t1 t2 m0 m2 s so later (inl (all, same)) = inl (
  record {
    wrote = all.wrote ∙ ap (λ (t : Option (List ℕ)). gained t piece) so.wrote;
    turn = all.turn ∙ ap (λ (t : Option (List Turn)). took t (said piece s)) so.turn;
  },
  same,
)
says_behind turns piece wanted status coming now u0 u1 u2 before between after f0 f1 f2 t0 t1 t2 m0 m2 s so later (inr (part, same)) =
    inr (part_behind turns piece coming u0 u2 before between after f0 f1 f2 t0 t1 t2 m0 m2 s so later part.failed part.wrote part.turn, same)

-- lines were given
pub were_given : (sites : Sites) (talk : Talked) (coming now : Option (List ℕ)) (lines : List Given) → talk.coming ≡ coming → GaveSince sites coming now lines → WereGiven sites talk lines
were_given sites talk (Some bytes) (Some rest) lines is gave = subst (λ (c : Option (List ℕ)). IfSome c (λ bytes. (more : List Given) × (given_by (line_bytes sites) bytes ≡ lines ++ more))) (sym is) (given_by (line_bytes sites) rest, gave)
were_given sites talk None now lines is gave = subst (λ (c : Option (List ℕ)). IfSome c (λ bytes. (more : List Given) × (given_by (line_bytes sites) bytes ≡ lines ++ more))) (sym is) tt
were_given sites talk (Some bytes) None lines is gave = absurd gave

-- and nothing is left
pub all_given : (sites : Sites) (talk : Talked) (coming now next : Option (List ℕ)) (lines : List Given) → talk.coming ≡ coming → GaveSince sites coming now lines → Comes (line_bytes sites) now None next → AllGiven sites talk lines
all_given sites talk (Some bytes) (Some rest) (Some left) lines is gave (none, nothing) =
    subst (λ (c : Option (List ℕ)). IfSome c (λ bytes. given_by (line_bytes sites) bytes ≡ lines)) (sym is) (gave ∙ ap (λ (l : List Given). lines ++ l) none ∙ append-nil lines)
all_given sites talk (Some bytes) (Some rest) None lines is gave comes = absurd comes
all_given sites talk (Some bytes) None next lines is gave comes = absurd gave
all_given sites talk None now next lines is gave comes = subst (λ (c : Option (List ℕ)). IfSome c (λ bytes. given_by (line_bytes sites) bytes ≡ lines)) (sym is) tt

-- what the store told at the start, and the turns that were taken where memory ran out
abbrev pub Halts : Net → Sites → Talked → Books → Shown → List Exchange → Type 0
Halts net sites talk begun start exchanges =
    (turns : List Turn) × ShowsChanges net (at_start net sites begun.state.changes) start × StopsTurns net sites begun.state.changes start exchanges turns
    × (talk.turns_after ≡ took talk.turns_before turns)

-- behind the last answer
pub halts_at : (net : Net) (sites : Sites) (talk : Talked) (begun : Books) (exchanges : List Exchange) (start : Shown) → ShowsChanges net (at_start net sites begun.state.changes) start
    → talk.turns_after ≡ took talk.turns_before (session_turns net sites begun.state.changes start exchanges) → Halts net sites talk begun start exchanges
halts_at net sites talk begun exchanges start shows taken = (session_turns net sites begun.state.changes start exchanges, shows, inl refl, taken)

-- behind a line that was not answered
pub halts_heard : (net : Net) (sites : Sites) (talk : Talked) (begun : Books) (exchanges : List Exchange) (start : Shown) (one : Given) → ShowsChanges net (at_start net sites begun.state.changes) start
    → talk.turns_after ≡ took talk.turns_before (session_turns net sites begun.state.changes start exchanges ++ Heard one ∷ []) → Halts net sites talk begun start exchanges
halts_heard net sites talk begun exchanges start one shows taken = (session_turns net sites begun.state.changes start exchanges ++ Heard one ∷ [], shows, inr (inl (one, refl)), taken)

-- what was asked and answered goes on from there
goes_from : (net : Net) (sites : Sites) (begun : Books) (parts : List Item) (old : Hand) (lines : List ℕ) (left : Left) → (so : ItemsDone net sites begun parts old lines) → IsLeftEarly old left → GoesOnFrom so.end left.histories
goes_from net sites begun parts old lines left so is =
    let entries = is.goes.ran.entries in
    let one : ℕ → List Entry → List History = λ (b : ℕ) (e : List Entry). record { before = b; entries = e } ∷ [] in (
      entries,
      is.histories
          ∙ ap (λ (o : List History). o ++ one is.hand.before is.hand.book.history) (is.goes.over ∙ sym so.over_is)
          ∙ ap (λ (b : ℕ). so.end.over ++ one b is.hand.book.history) (is.goes.before ∙ so.so_far.before)
          ∙ ap (λ (e : List Entry). so.end.over ++ one (length so.end.opening) e) (is.goes.ran.kept ∙ ap (λ (h : List Entry). h ++ entries) (sym so.history_is)),
    )

-- memory ran out
pub session_early : (net : Net) (sites : Sites) (talk : Talked) (begun : Books) (exchanges : List Exchange) (old : Hand) (start : Shown) (left : Left) (status : ℕ)
    → SessionDone net sites begun start exchanges old → WereTold talk exchanges → Halts net sites talk begun start exchanges → IsLeftEarly old left → status ≡ 1 → talk.store.crashes ≡ left.crashes → SessionEnded net sites talk begun left status
session_early net sites talk begun exchanges old start left status so timed (turns, shows, stops, taken) is status_is store_is = record {
  world = world_of net begun so.done.end.opening old left.events so.done.so_far is.world;
  ends = inl (record {
    off = breaks_off net begun so.done.end.opening old left status so.done.so_far is status_is;
    exchanges = exchanges;
    start = start;
    shows = shows;
    parts = so.parts;
    stand = so.done.end;
    played = so.played;
    timed = timed;
    lasts = subst (Last net (changes_at so.done.end) (shown_behind start exchanges).crashes) (sym store_is)
        (last_further net sites begun so.parts old so.lines (shown_behind start exchanges).crashes left.crashes so.done so.lasts is.last);
    goes = goes_from net sites begun so.parts old so.lines left so.done is;
    turns = turns;
    stops = stops;
    taken = taken;
  });
}

-- memory ran out between two lines
pub session_stopped : (net : Net) (sites : Sites) (talk : Talked) (begun : Books) (exchanges : List Exchange) (hand : Hand) (start : Shown) (left : Left) (status : ℕ)
    → SessionDone net sites begun start exchanges hand → WereTold talk exchanges → Halts net sites talk begun start exchanges → IsLeftOf hand left → status ≡ 1 → talk.store.crashes ≡ left.crashes → SessionEnded net sites talk begun left status
session_stopped net sites talk begun exchanges hand start left status so timed halts is status_is store_is =
    session_early net sites talk begun exchanges hand start left status so timed halts (left_early net hand left so.done.so_far.network so.done.so_far.follow is) status_is store_is

-- what lasts where a session stops
last_left : (net : Net) (sites : Sites) (talk : Talked) (begun : Books) (exchanges : List Exchange) (hand : Hand) (start : Shown) (left : Left) → (so : SessionDone net sites begun start exchanges hand) → IsLeftOf hand left
    → talk.store.crashes ≡ left.crashes → LastToEnd net talk so.done.end start exchanges
last_left net sites talk begun exchanges hand start left so is store_is =
    subst (Last net (changes_at so.done.end) (shown_behind start exchanges).crashes) (sym (store_is ∙ is.crashes)) so.lasts

-- the sink failed over a piece
session_unsaid : (net : Net) (sites : Sites) (talk : Talked) (begun : Books) (exchanges : List Exchange) (hand : Hand) (turns : List Turn) (piece : List ℕ) (start shown : Shown) (left : Left) (status : ℕ) → AreGood net
    → ShowsChanges net (at_start net sites begun.state.changes) start
    → SessionDone net sites begun start exchanges hand → WereTold talk exchanges → IsLeftOf hand left → WereGiven sites talk (heard_in exchanges) → session_turns net sites begun.state.changes start exchanges ≡ turns ++ Said piece shown ∷ []
    → SaysPart (behind talk turns) piece → status ≡ 6 → talk.store.crashes ≡ left.crashes → SessionEnded net sites talk begun left status
unfolding run_of
session_unsaid net sites talk begun exchanges hand turns piece start shown left status good shows so timed is given last part status_is store_is = record {
  world = world_of net begun so.done.end.opening hand left.events so.done.so_far is.world;
  ends = inr (inr (inl (record {
    exchanges = exchanges;
    start = start;
    session = record {
      shows = shows;
      parts = so.parts;
      lines = so.lines;
      run = run_of net sites begun so.parts hand so.lines left.histories left.events good so.done is.histories is.events;
      played = so.played;
    };
    left = left_of net sites begun so.parts hand so.lines left.told left.faults left.histories so.done is.told is.faults is.histories is.kept;
    lasts = last_left net sites talk begun exchanges hand start left so is store_is;
    given = given;
    timed = timed;
    turns = turns;
    piece = piece;
    shown = shown;
    last = last;
    part = part;
    status_is = status_is;
  })));
}

-- a piece was not said
pub session_not_said : (net : Net) (sites : Sites) (talk : Talked) (begun : Books) (exchanges : List Exchange) (hand : Hand) (turns : List Turn) (piece : List ℕ) (start shown : Shown) (left : Left) (why : SinkFault) (status : ℕ) → AreGood net
    → ShowsChanges net (at_start net sites begun.state.changes) start → talk.turns_after ≡ took talk.turns_before turns
    → SessionDone net sites begun start exchanges hand → WereTold talk exchanges → IsLeftOf hand left → WereGiven sites talk (heard_in exchanges) → session_turns net sites begun.state.changes start exchanges ≡ turns ++ Said piece shown ∷ []
    → (why ≡ sink.Failed → SaysPart (behind talk turns) piece) → (why ≡ sink.OutOfMemory → status ≡ 1) → (why ≡ sink.Failed → status ≡ 6) → talk.store.crashes ≡ left.crashes
    → SessionEnded net sites talk begun left status
session_not_said net sites talk begun exchanges hand turns piece start shown left sink.OutOfMemory status good shows taken so timed is given last part early partly store_is =
    session_stopped net sites talk begun exchanges hand start left status so timed (turns, shows, inr (inr (piece, shown, last)), taken) is (early refl) store_is
session_not_said net sites talk begun exchanges hand turns piece start shown left sink.Failed status good shows taken so timed is given last part early partly store_is =
    session_unsaid net sites talk begun exchanges hand turns piece start shown left status good shows so timed is given last (part refl) (partly refl) store_is

-- the input came to its end
session_whole : (net : Net) (sites : Sites) (talk : Talked) (begun : Books) (exchanges : List Exchange) (hand : Hand) (start : Shown) (left : Left) (end : InputEnd) (status : ℕ) → AreGood net → ShowsChanges net (at_start net sites begun.state.changes) start
    → SessionDone net sites begun start exchanges hand → WereTold talk exchanges → IsLeftOf hand left → StopsHearing sites talk (heard_in exchanges) end
    → Says (behind talk (session_turns net sites begun.state.changes start exchanges)) (closing_text end left.histories) (status_behind end left.histories) status → talk.store.crashes ≡ left.crashes
    → SessionEnded net sites talk begun left status
unfolding run_of
session_whole net sites talk begun exchanges hand start left end status good shows so timed is stops closing store_is = record {
  world = world_of net begun so.done.end.opening hand left.events so.done.so_far is.world;
  ends = inr (inl (record {
    exchanges = exchanges;
    start = start;
    session = record {
      shows = shows;
      parts = so.parts;
      lines = so.lines;
      run = run_of net sites begun so.parts hand so.lines left.histories left.events good so.done is.histories is.events;
      played = so.played;
    };
    left = left_of net sites begun so.parts hand so.lines left.told left.faults left.histories so.done is.told is.faults is.histories is.kept;
    lasts = last_left net sites talk begun exchanges hand start left so is store_is;
    end = end;
    stops = stops;
    timed = timed;
    said = closing;
  }));
}

-- the recovery at a restart failed
session_at_restart : (net : Net) (sites : Sites) (talk : Talked) (begun : Books) (exchanges : List Exchange) (one : Came) (old : Hand) (start : Shown) (left : Left) (fault : RecoverFault) (status : ℕ)
    → AreGood net → ShowsChanges net (at_start net sites begun.state.changes) start → SessionDone net sites begun start exchanges old → WereTold talk exchanges → (row_behind net sites (came_in exchanges) one).1 ≡ step.Plays item.Restart → one.0 ≡ old.book.state.changes → WereGiven sites talk (heard_in exchanges ++ one.1 ∷ [])
    → IsLeftAtRestart net old left fault → SaysNamed (behind talk (session_turns net sites begun.state.changes start exchanges ++ Heard one.1 ∷ [])) restart_line fault status
    → talk.store.crashes ≡ left.crashes → SessionEnded net sites talk begun left status
unfolding run_of
session_at_restart net sites talk begun exchanges one old start left fault status good shows so timed asked known given is (inl early) store_is =
    let done = so.done in
    session_early net sites talk begun exchanges old start left status so timed (halts_heard net sites talk begun exchanges start one.1 shows early.1) (record {
      hand = old;
      goes = record { over = refl; before = refl; ran = ran_nothing old.book (subst (λ (n : Net). Follows n old.book.state.changes) (sym done.so_far.network) done.so_far.follow); world = refl };
      histories = is.histories;
      kept = is.kept;
      cut = subst (λ (n : Net). MaybeRecovered n old.book.told left.told old.book.faults left.faults) (sym done.so_far.network) (left_at_fault net old.book.told left.told old.book.faults left.faults fault is.failed);
      later = is.later;
      last = λ now. subst (λ (n : Net). Last n old.book.state.changes old.book.crashes left.crashes) (sym done.so_far.network) is.last;
      world = is.world;
    }) early.0 store_is
session_at_restart net sites talk begun exchanges one old start left fault status good shows so timed asked known given is (inr (named, told)) store_is = record {
  world = world_of net begun so.done.end.opening old left.events so.done.so_far is.world;
  ends = inr (inr (inr (record {
    exchanges = exchanges;
    last = one;
    start = start;
    session = record {
      shows = shows;
      parts = so.parts;
      lines = so.lines;
      run = run_of net sites begun so.parts old so.lines left.histories left.events good so.done is.histories is.events;
      played = so.played;
    };
    asked = asked;
    known = known ∙ sym (changes_are net sites begun so.parts old so.lines so.done);
    given = given;
    timed = timed;
    told = old.book.told;
    faults = old.book.faults;
    left = left_of net sites begun so.parts old so.lines old.book.told old.book.faults left.histories so.done refl refl is.histories is.kept;
    lasts = subst (Last net (changes_at so.done.end) (shown_behind start exchanges).crashes) (sym store_is)
        (last_further net sites begun so.parts old so.lines (shown_behind start exchanges).crashes left.crashes so.done so.lasts
        (λ now. subst (λ (n : Net). Last n old.book.state.changes old.book.crashes left.crashes) (sym so.done.so_far.network) is.last));
    fault = fault;
    failed = is.failed;
    later = is.later;
    named = named;
    only = only_fault old.book.told begun.told (fault ≡ StoreFault) so.done.so_far.tells is.only;
    said = told;
  })));
}

-- what a line comes to could not be played
session_not_played : (net : Net) (sites : Sites) (talk : Talked) (begun : Books) (exchanges : List Exchange) (one : Came) (stp : Step) (old : Hand) (start : Shown) (left : Left) (fault : RecoverFault) (status : ℕ)
    → AreGood net → ShowsChanges net (at_start net sites begun.state.changes) start → SessionDone net sites begun start exchanges old → WereTold talk exchanges → stp ≡ (row_behind net sites (came_in exchanges) one).1 → one.0 ≡ old.book.state.changes
    → WereGiven sites talk (heard_in exchanges ++ one.1 ∷ [])
    → StepFailed net stp old left fault → SaysNamed (behind talk (session_turns net sites begun.state.changes start exchanges ++ Heard one.1 ∷ [])) restart_line fault status
    → talk.store.crashes ≡ left.crashes → SessionEnded net sites talk begun left status
session_not_played net sites talk begun exchanges one (step.Plays part) old start left fault status good shows so timed is known given (inl (memory, early)) (inl status_is) store_is =
    session_early net sites talk begun exchanges old start left status so timed (halts_heard net sites talk begun exchanges start one.1 shows status_is.1) early status_is.0 store_is
session_not_played net sites talk begun exchanges one (step.Plays part) old start left fault status good shows so timed is known given (inl (memory, early)) (inr (named, told)) store_is = absurd (named memory)
session_not_played net sites talk begun exchanges one (step.Plays part) old start left fault status good shows so timed is known given (inr (restart, at)) told store_is =
    session_at_restart net sites talk begun exchanges one old start left fault status good shows so timed (sym is ∙ ap step.Plays restart) known given at told store_is
session_not_played net sites talk begun exchanges one step.Nothing old start left fault status good shows so timed is known given failed told store_is = absurd failed
session_not_played net sites talk begun exchanges one (step.Fault code) old start left fault status good shows so timed is known given failed told store_is = absurd failed
session_not_played net sites talk begun exchanges one (step.Clock on) old start left fault status good shows so timed is known given failed told store_is = absurd failed
session_not_played net sites talk begun exchanges one (step.Tells asked) old start left fault status good shows so timed is known given (memory, is_left) (inl status_is) store_is =
    session_stopped net sites talk begun exchanges old start left status so timed (halts_heard net sites talk begun exchanges start one.1 shows status_is.1) is_left status_is.0 store_is
session_not_played net sites talk begun exchanges one (step.Tells asked) old start left fault status good shows so timed is known given (memory, is_left) (inr (named, told)) store_is = absurd (named memory)
session_not_played net sites talk begun exchanges one (step.All said) old start left fault status good shows so timed is known given (memory, early) (inl status_is) store_is =
    session_early net sites talk begun exchanges old start left status so timed (halts_heard net sites talk begun exchanges start one.1 shows status_is.1) early status_is.0 store_is
session_not_played net sites talk begun exchanges one (step.All said) old start left fault status good shows so timed is known given (memory, early) (inr (named, told)) store_is = absurd (named memory)

-- what a clock told to lines is the first that it told, also where it told more behind them
were_told : (net : Net) (sites : Sites) (begun : Books) (talk : Talked) (exchanges : List Exchange) (hand : Hand) (before after : Option (List ℕ)) (t0 t1 : Option (List Turn)) (m0 m1 : Moments) (more : List (List ℕ))
    → SessionSaid net sites begun exchanges hand before after t0 t1 m0 m1 → talk.moments_before ≡ m0 → TicksAll m1 more talk.moments_after → WereTold talk exchanges
were_told net sites begun talk exchanges hand before after t0 t1 m0 m1 more so same rest =
    (more, subst (λ (m : Moments). TicksAll m (told_in exchanges ++ more) talk.moments_after) (sym same) (ticks_append m0 m1 talk.moments_after (told_in exchanges) more so.ticked rest))

-- the first piece was not said
pub session_not_begun : (net : Net) (sites : Sites) (hand : Hand) (left : Left) (why : SinkFault) (coming : Option (List ℕ)) (u0 u2 : ℕ) (before after : Option (List ℕ)) (f0 f2 : ℕ) (t0 t2 : Option (List Turn)) (m0 : Moments) (s : Shown) (status : ℕ)
    → AreGood net → IsBegun net sites hand → IsLeftOf hand left → (why ≡ sink.Failed → Rose f0 f2) → (why ≡ sink.Failed → GainsPrefix before (start_of hand ++ ready_line 0) after) → t2 ≡ t0
    → (why ≡ sink.OutOfMemory → status ≡ 1) → (why ≡ sink.Failed → status ≡ 6) → s.crashes ≡ left.crashes → LastsIn hand
    → SessionEnded net sites (talk_of coming u0 u2 before after f0 f2 t0 t2 m0 m0 s) hand.book left status
session_not_begun net sites hand left why coming u0 u2 before after f0 f2 t0 t2 m0 s status good begun is failed gains same early partly store_is last =
    let piece = start_of hand ++ ready_line 0 in
    let start : Shown = record { told = hand.book.told; faults = hand.book.faults; crashes = hand.book.crashes } in
    session_not_said net sites (talk_of coming u0 u2 before after f0 f2 t0 t2 m0 m0 s) hand.book [] hand [] piece start start left why status good (start_shown net sites hand start begun is.kept) (same ∙ took-nil t0) (session_begins net sites hand start begun refl last) ([], refl) is
    (were_given sites (talk_of coming u0 u2 before after f0 f2 t0 t2 m0 m0 s) coming coming [] refl (gave_none sites coming)) (ap (λ (p : List ℕ). Said p start ∷ []) (sym (opening_is net sites hand begun)))
    (λ stopped. part_behind [] piece coming u0 u2 before before after f0 f0 f2 t0 t0 t2 m0 m0 s (took_none before t0) (omega arith) (failed stopped) (gains stopped) same) early partly store_is

-- memory ran out over the next line
pub going_stopped : (net : Net) (sites : Sites) (talk : Talked) (begun : Books) (at : ℕ) (blocks : Open) (timed : Bool) (hand : Hand) (left : Left) (coming now before after : Option (List ℕ)) (t1 : Option (List Turn)) (status : ℕ)
    → SessionGoing net sites begun at blocks timed hand coming now before after talk.turns_before t1 talk.moments_before talk.moments_after → talk.turns_after ≡ t1 → IsLeftOf hand left → status ≡ 1 → talk.store.crashes ≡ left.crashes → SessionEnded net sites talk begun left status
going_stopped net sites talk begun at blocks timed hand left coming now before after t1 status so same is status_is store_is =
    session_stopped net sites talk begun so.exchanges hand so.said.start left status so.said.done (were_told net sites begun talk so.exchanges hand before after talk.turns_before t1 talk.moments_before talk.moments_after [] so.said refl refl)
    (halts_at net sites talk begun so.exchanges so.said.start so.said.shows (same ∙ so.said.taken.turn)) is status_is store_is

-- memory ran out over a line that was heard
pub going_not_taken : (net : Net) (sites : Sites) (talk : Talked) (begun : Books) (at : ℕ) (blocks : Open) (timed : Bool) (came : Incoming) (hand : Hand) (left : Left) (coming now before after : Option (List ℕ)) (t1 : Option (List Turn)) (m1 : Moments) (more : List (List ℕ)) (status : ℕ)
    → SessionGoing net sites begun at blocks timed hand coming now before after talk.turns_before t1 talk.moments_before m1 → talk.turns_after ≡ took t1 (heard (Some came)) → TicksAll m1 more talk.moments_after
    → IsLeftOf hand left → status ≡ 1 → talk.store.crashes ≡ left.crashes → SessionEnded net sites talk begun left status
going_not_taken net sites talk begun at blocks timed came hand left coming now before after t1 m1 more status so turn ticked is status_is store_is =
    session_stopped net sites talk begun so.exchanges hand so.said.start left status so.said.done (were_told net sites begun talk so.exchanges hand before after talk.turns_before t1 talk.moments_before m1 more so.said refl ticked)
    (halts_heard net sites talk begun so.exchanges so.said.start (said_by came) so.said.shows
    (took_heard (session_turns net sites begun.state.changes so.said.start so.exchanges) came before after after talk.turns_before t1 talk.turns_after so.said.taken refl turn).turn) is status_is store_is

-- a line was played, and the piece was not said to it
pub going_not_said : (net : Net) (sites : Sites) (begun : Books) (at : ℕ) (blocks behind_it : Open) (timed : Bool) (came : Incoming) (stp : Step) (told : Option (List ℕ)) (old new : Hand) (own piece : List ℕ) (shown : Shown) (left : Left) (why : SinkFault)
    (coming now next : Option (List ℕ)) (u0 u2 : ℕ) (before b1 b2 after : Option (List ℕ)) (f0 f1 f2 : ℕ) (t0 t1 t2 t3 : Option (List Turn)) (m0 m1 m2 : Moments) (s : Shown) (status : ℕ)
    → AreGood net → SessionGoing net sites begun at blocks timed old coming now before b1 t0 t1 m0 m1 → Comes (line_bytes sites) now (Some came) next → b2 ≡ b1 → t2 ≡ took t1 (heard (Some came))
    → (let row : Open × Step = (behind_it, stp) in row ≡ row_of net sites at blocks old.book.state.changes (said_by came)) → StepPlayed net stp old new own → is_some told ≡ timed_behind timed stp → TicksIf m1 told m2
    → IsLeftOf new left → shown.told ≡ new.book.told → piece ≡ own ++ answer_of at (said_by came) (behind_it, stp) told
    → f0 ≤ f1 → (why ≡ sink.Failed → Rose f1 f2) → (why ≡ sink.Failed → GainsPrefix b2 piece after) → t3 ≡ t2 → (why ≡ sink.OutOfMemory → status ≡ 1) → (why ≡ sink.Failed → status ≡ 6)
    → s.crashes ≡ left.crashes → shown.crashes ≡ new.book.crashes → LastsIn new → SessionEnded net sites (talk_of coming u0 u2 before after f0 f2 t0 t3 m0 m2 s) begun left status
going_not_said net sites begun at blocks behind_it timed came stp told old new own piece shown left why coming now next u0 u2 before b1 b2 after f0 f1 f2 t0 t1 t2 t3 m0 m1 m2 s status good so comes same turn row played timed_is tick is told_is piece_is later failed gains quiet early partly store_is crashes_are last =
    let one : Exchange = record { known = old.book.state.changes; line = said_by came; told = told; piece = piece; shown = shown } in
    let lines = heard_in so.exchanges in
    let number : at ≡ 1 + length (came_in so.exchanges) = omega (arith, so.count, came_count so.exchanges) in
    let talk = talk_of coming u0 u2 before after f0 f2 t0 t3 m0 m2 s in
    let turns = session_turns net sites begun.state.changes so.said.start so.exchanges ++ Heard (said_by came) ∷ [] in
    let taken = took_heard (session_turns net sites begun.state.changes so.said.start so.exchanges) came before b1 b2 t0 t1 t2 so.said.taken same turn in
    let kept = subst (λ (t : Option (List ℕ)). IsKept new.book.net t new.book.state.changes (lost_of new.book.history)) (sym told_is) is.kept in
    session_not_said net sites talk begun (so.exchanges ++ one ∷ []) new turns piece so.said.start shown left why status good so.said.shows (quiet ∙ taken.turn)
    (session_goes_on net sites begun so.said.start so.exchanges one behind_it timed stp old new own so.said.done (row_is net sites at blocks behind_it so.exchanges (one.known, one.line) stp so.open_is number row) played refl so.timed_is timed_is
    (answer_is at so.exchanges (said_by came) behind_it stp told own piece number piece_is) kept crashes_are last)
    ([], subst (λ (l : List (List ℕ)). TicksAll m0 l m2) (sym (append-nil (told_in (so.exchanges ++ one ∷ [])))) (ticks_more m0 m1 m2 so.exchanges one so.said.ticked tick)) is
    (subst (WereGiven sites talk) (sym (heard_more so.exchanges one)) (were_given sites talk coming next (lines ++ said_by came ∷ []) refl (gave_more sites coming now next lines came so.gave comes)))
    (session_turns_more net sites begun.state.changes so.said.start so.exchanges one)
    (λ stopped. part_behind turns piece coming u0 u2 before b2 after f0 f1 f2 t0 t2 t3 m0 m2 s taken later (failed stopped) (gains stopped) quiet) early partly store_is

-- the line of the fault is said behind the turns before
named_behind : (net : Net) (sites : Sites) (begun : Books) (exchanges : List Exchange) (one : Given) (start : Shown) (fault : RecoverFault) (coming now : Option (List ℕ)) (u0 u1 u2 : ℕ) (before between after : Option (List ℕ)) (f0 f1 f2 : ℕ) (t0 t1 t2 : Option (List Turn)) (m0 m2 : Moments) (s : Shown) (status : ℕ)
    → Took (session_turns net sites begun.state.changes start exchanges ++ Heard one ∷ []) before between t0 t1 → f0 ≤ f1 → SaysNamed (talk_of now u1 u2 between after f1 f2 t1 t2 None None s) restart_line fault status
    → SaysNamed (behind (talk_of coming u0 u2 before after f0 f2 t0 t2 m0 m2 s) (session_turns net sites begun.state.changes start exchanges ++ Heard one ∷ [])) restart_line fault status
named_behind net sites begun exchanges one start fault coming now u0 u1 u2 before between after f0 f1 f2 t0 t1 t2 m0 m2 s status so later (inl early) = inl (early.0, early.1 ∙ so.turn)
named_behind net sites begun exchanges one start fault coming now u0 u1 u2 before between after f0 f1 f2 t0 t1 t2 m0 m2 s status so later (inr (named, told)) =
    inr (named, says_behind (session_turns net sites begun.state.changes start exchanges ++ Heard one ∷ []) (restart_line ++ recover_line fault) (recover_status fault) status coming now u0 u1 u2 before between after f0 f1 f2 t0 t1 t2 m0 m2 s so later told)

-- what a line comes to could not be played, which was said
pub going_not_played : (net : Net) (sites : Sites) (begun : Books) (at : ℕ) (blocks behind_it : Open) (timed : Bool) (came : Incoming) (stp : Step) (told : Option (List ℕ)) (old : Hand) (left : Left) (fault : RecoverFault)
    (coming now next : Option (List ℕ)) (u0 u1 u2 : ℕ) (before b1 b2 after : Option (List ℕ)) (f0 f1 f2 : ℕ) (t0 t1 t2 t3 : Option (List Turn)) (m0 m1 m2 : Moments) (s : Shown) (status : ℕ)
    → AreGood net → SessionGoing net sites begun at blocks timed old coming now before b1 t0 t1 m0 m1 → Comes (line_bytes sites) now (Some came) next → b2 ≡ b1 → t2 ≡ took t1 (heard (Some came))
    → (let row : Open × Step = (behind_it, stp) in row ≡ row_of net sites at blocks old.book.state.changes (said_by came)) → TicksIf m1 told m2 → StepFailed net stp old left fault → f0 ≤ f1
    → SaysNamed (talk_of next u1 u2 b2 after f1 f2 t2 t3 None None s) restart_line fault status → s.crashes ≡ left.crashes → SessionEnded net sites (talk_of coming u0 u2 before after f0 f2 t0 t3 m0 m2 s) begun left status
going_not_played net sites begun at blocks behind_it timed came stp told old left fault coming now next u0 u1 u2 before b1 b2 after f0 f1 f2 t0 t1 t2 t3 m0 m1 m2 s status good so comes same turn row tick failed later said_is store_is =
    let lines = heard_in so.exchanges in
    let talk = talk_of coming u0 u2 before after f0 f2 t0 t3 m0 m2 s in
    session_not_played net sites talk begun so.exchanges (old.book.state.changes, said_by came) stp old so.said.start left fault status good so.said.shows so.said.done
    (were_told net sites begun talk so.exchanges old before b1 t0 t1 m0 m1 (told_list told) so.said refl (ticks_if m1 m2 told tick))
    (ap (λ (r : Open × Step). r.1) (row_is net sites at blocks behind_it so.exchanges (old.book.state.changes, said_by came) stp so.open_is (let number : at ≡ 1 + length (came_in so.exchanges) = omega (arith, so.count, came_count so.exchanges) in number) row)) refl
    (were_given sites talk coming next (lines ++ said_by came ∷ []) refl (gave_more sites coming now next lines came so.gave comes)) failed
    (named_behind net sites begun so.exchanges (said_by came) so.said.start fault coming next u0 u1 u2 before b2 after f0 f1 f2 t0 t2 t3 m0 m2 s status
    (took_heard (session_turns net sites begun.state.changes so.said.start so.exchanges) came before b1 b2 t0 t1 t2 so.said.taken same turn) later said_is) store_is

-- the end of the input was heard
pub heard_over : (net : Net) (sites : Sites) (begun : Books) (at : ℕ) (blocks : Open) (timed : Bool) (hand : Hand) (coming now next : Option (List ℕ)) (u0 u2 : ℕ) (before b1 after : Option (List ℕ)) (f0 f2 : ℕ) (t0 t1 t2 : Option (List Turn)) (m0 m2 : Moments) (s : Shown)
    → SessionGoing net sites begun at blocks timed hand coming now before b1 t0 t1 m0 m2 → Comes (line_bytes sites) now None next → after ≡ b1 → t2 ≡ took t1 []
    → SessionHeard net sites begun (talk_of coming u0 u2 before after f0 f2 t0 t2 m0 m2 s) hand ending.Over
heard_over net sites begun at blocks timed hand coming now next u0 u2 before b1 after f0 f2 t0 t1 t2 m0 m2 s so comes same turn = record {
  exchanges = so.exchanges;
  stops = inl (all_given sites (talk_of coming u0 u2 before after f0 f2 t0 t2 m0 m2 s) coming now next (heard_in so.exchanges) refl so.gave comes);
  said = record { start = so.said.start; done = so.said.done; shows = so.said.shows; taken = took_end (session_turns net sites begun.state.changes so.said.start so.exchanges) before b1 after t0 t1 t2 so.said.taken same turn; ticked = so.said.ticked };
}

-- as many lines were heard as are counted
pub heard_all : (net : Net) (sites : Sites) (begun : Books) (at : ℕ) (blocks : Open) (timed : Bool) (hand : Hand) (coming now : Option (List ℕ)) (u0 u2 : ℕ) (before after : Option (List ℕ)) (f0 f2 : ℕ) (t0 t2 : Option (List Turn)) (m0 m2 : Moments) (s : Shown)
    → SessionGoing net sites begun at blocks timed hand coming now before after t0 t2 m0 m2 → at ≡ 400000000000000 → SessionHeard net sites begun (talk_of coming u0 u2 before after f0 f2 t0 t2 m0 m2 s) hand ending.Over
heard_all net sites begun at blocks timed hand coming now u0 u2 before after f0 f2 t0 t2 m0 m2 s so end = record {
  exchanges = so.exchanges;
  stops = inr (so.count ∙ end, were_given sites (talk_of coming u0 u2 before after f0 f2 t0 t2 m0 m2 s) coming now (heard_in so.exchanges) refl so.gave);
  said = so.said;
}

-- the input failed
pub heard_fault : (net : Net) (sites : Sites) (begun : Books) (at : ℕ) (blocks : Open) (timed : Bool) (hand : Hand) (coming now : Option (List ℕ)) (u0 u2 : ℕ) (before b1 after : Option (List ℕ)) (f0 f2 : ℕ) (t0 t1 t2 : Option (List Turn)) (m0 m2 : Moments) (s : Shown)
    → SessionGoing net sites begun at blocks timed hand coming now before b1 t0 t1 m0 m2 → Rose u0 u2 → after ≡ b1 → t2 ≡ t1 → SessionHeard net sites begun (talk_of coming u0 u2 before after f0 f2 t0 t2 m0 m2 s) hand ending.Failed
heard_fault net sites begun at blocks timed hand coming now u0 u2 before b1 after f0 f2 t0 t1 t2 m0 m2 s so rose same turn = record {
  exchanges = so.exchanges;
  stops = (rose, were_given sites (talk_of coming u0 u2 before after f0 f2 t0 t2 m0 m2 s) coming now (heard_in so.exchanges) refl so.gave);
  said = record { start = so.said.start; done = so.said.done; shows = so.said.shows; taken = took_same (session_turns net sites begun.state.changes so.said.start so.exchanges) before b1 after t0 t1 t2 so.said.taken same turn; ticked = so.said.ticked };
}

-- the hearing stopped so, also for the talk as it is later
stops_later : (sites : Sites) (coming : Option (List ℕ)) (u0 u1 u2 : ℕ) (before between after : Option (List ℕ)) (f0 f1 f2 : ℕ) (t0 t1 t2 : Option (List Turn)) (m0 m2 : Moments) (s1 s : Shown) (lines : List Given) (end : InputEnd) → u2 ≡ u1
    → StopsHearing sites (talk_of coming u0 u1 before between f0 f1 t0 t1 m0 m2 s1) lines end → StopsHearing sites (talk_of coming u0 u2 before after f0 f2 t0 t2 m0 m2 s) lines end
stops_later sites coming u0 u1 u2 before between after f0 f1 f2 t0 t1 t2 m0 m2 s1 s lines ending.Over same stops = stops
stops_later sites coming u0 u1 u2 before between after f0 f1 f2 t0 t1 t2 m0 m2 s1 s lines ending.Failed same (rose, given) = (subst (Rose u0) (sym same) rose, given)

-- the last piece was said, or not
pub session_closed : (net : Net) (sites : Sites) (begun : Books) (hand : Hand) (left : Left) (end : InputEnd) (coming now : Option (List ℕ)) (u0 u1 u2 : ℕ) (before between after : Option (List ℕ)) (f0 f1 f2 : ℕ) (t0 t1 t2 : Option (List Turn)) (m0 m2 : Moments) (s1 s : Shown) (status : ℕ)
    → AreGood net → SessionHeard net sites begun (talk_of coming u0 u1 before between f0 f1 t0 t1 m0 m2 s1) hand end → f0 ≤ f1 → u2 ≡ u1 → IsLeftOf hand left
    → SaysOrNot (talk_of now u1 u2 between after f1 f2 t1 t2 None None s) (closing_text end left.histories) (status_behind end left.histories) status
    → s.crashes ≡ left.crashes → SessionEnded net sites (talk_of coming u0 u2 before after f0 f2 t0 t2 m0 m2 s) begun left status
session_closed net sites begun hand left end coming now u0 u1 u2 before between after f0 f1 f2 t0 t1 t2 m0 m2 s1 s status good so later same is (inl early) store_is =
    session_stopped net sites (talk_of coming u0 u2 before after f0 f2 t0 t2 m0 m2 s) begun so.exchanges hand so.said.start left status so.said.done
    (were_told net sites begun (talk_of coming u0 u2 before after f0 f2 t0 t2 m0 m2 s) so.exchanges hand before between t0 t1 m0 m2 [] so.said refl refl)
    (halts_at net sites (talk_of coming u0 u2 before after f0 f2 t0 t2 m0 m2 s) begun so.exchanges so.said.start so.said.shows (early.1 ∙ so.said.taken.turn)) is early.0 store_is
session_closed net sites begun hand left end coming now u0 u1 u2 before between after f0 f1 f2 t0 t1 t2 m0 m2 s1 s status good so later same is (inr closing) store_is =
    session_whole net sites (talk_of coming u0 u2 before after f0 f2 t0 t2 m0 m2 s) begun so.exchanges hand so.said.start left end status good so.said.shows so.said.done
    (were_told net sites begun (talk_of coming u0 u2 before after f0 f2 t0 t2 m0 m2 s) so.exchanges hand before between t0 t1 m0 m2 [] so.said refl refl) is
    (stops_later sites coming u0 u1 u2 before between after f0 f1 f2 t0 t1 t2 m0 m2 s1 s (heard_in so.exchanges) end same so.stops)
    (says_behind (session_turns net sites begun.state.changes so.said.start so.exchanges) (closing_text end left.histories) (status_behind end left.histories) status coming now u0 u1 u2 before between after f0 f1 f2 t0 t1 t2 m0 m2 s
    so.said.taken later closing) store_is

-- the same of what is given back
pub same_session_end : (net : Net) (sites : Sites) (coming : Option (List ℕ)) (u0 u2 : ℕ) (b0 b2 : Option (List ℕ)) (f0 f2 : ℕ) (t0 t2 : Option (List Turn)) (m0 m2 : Moments) (begun : Books) (left : Left) (told : Option (List ℕ)) (faults : ℕ) (crashes : Option Crashes) (histories : List History) (events : List Event) (status s : ℕ)
    → told ≡ left.told → faults ≡ left.faults → crashes ≡ left.crashes → histories ≡ left.histories → events ≡ left.events → status ≡ s → SessionEnded net sites (talk_of coming u0 u2 b0 b2 f0 f2 t0 t2 m0 m2 (record { told = left.told; faults = left.faults; crashes = left.crashes })) begun left s
    → SessionEnded net sites (talk_of coming u0 u2 b0 b2 f0 f2 t0 t2 m0 m2 (record { told = told; faults = faults; crashes = crashes })) begun (record { told = told; faults = faults; crashes = crashes; histories = histories; events = events }) status
same_session_end net sites coming u0 u2 b0 b2 f0 f2 t0 t2 m0 m2 begun left told faults crashes histories events status s told_is faults_are crashes_are all same status_is ended =
    subst (λ (n : ℕ). SessionEnded net sites (talk_of coming u0 u2 b0 b2 f0 f2 t0 t2 m0 m2 (record { told = told; faults = faults; crashes = crashes })) begun (record { told = told; faults = faults; crashes = crashes; histories = histories; events = events }) n) (sym status_is)
    (subst (λ (l : Left). SessionEnded net sites (talk_of coming u0 u2 b0 b2 f0 f2 t0 t2 m0 m2 (record { told = l.told; faults = l.faults; crashes = l.crashes })) begun l s) (sym (
    ap (λ (t : Option (List ℕ)). let l : Left = record { told = t; faults = faults; crashes = crashes; histories = histories; events = events } in l) told_is
    ∙ ap (λ (f : ℕ). let l : Left = record { told = left.told; faults = f; crashes = crashes; histories = histories; events = events } in l) faults_are
    ∙ ap (λ (c : Option Crashes). let l : Left = record { told = left.told; faults = left.faults; crashes = c; histories = histories; events = events } in l) crashes_are
    ∙ ap (λ (h : List History). let l : Left = record { told = left.told; faults = left.faults; crashes = left.crashes; histories = h; events = events } in l) all
    ∙ ap (λ (e : List Event). let l : Left = record { told = left.told; faults = left.faults; crashes = left.crashes; histories = left.histories; events = e } in l) same
    )) ended)

-- a source failed
pub source_failed : (before now : ℕ) (why : SourceFault) → (let failed : Result (Option Incoming) SourceFault = Err why in HasCause source.Failed before now failed) → why ≡ source.Failed → Rose before now
source_failed before now source.Failed cause is = cause.failed refl
source_failed before now source.OutOfMemory cause is = absurd cc

-- a session over a store is one over another that tells its bytes where that one does
unfoldable session_over : (net : Net) (sites : Sites) (tells other : Bool) (opening : List Change) (start : Shown) (exchanges : List Exchange) (histories : List History) (events : List Event) → tells ≡ other
    → IsSession net sites tells opening start exchanges histories events → IsSession net sites other opening start exchanges histories events
unfolding run_over
session_over net sites tells other opening start exchanges histories events same session = record {
  shows = session.shows;
  parts = session.parts;
  lines = session.lines;
  run = run_over net sites tells other opening session.parts histories events session.lines same session.run;
  played = subst (λ (b : Bool). PlaysLines net sites b 1 [] false (at_start net sites opening) start exchanges session.parts session.run.end) same session.played;
}

-- the store told bytes before the recovery as behind it, or not, and its count of faults did not fall in it
session_ends_from : (net : Net) (sites : Sites) (talk : Talked) (told given after : Option (List ℕ)) (faults begun now : ℕ) (opening : List Change) (status : ℕ) (histories : List History) (events : List Event)
    → is_some told ≡ is_some given → faults ≤ begun → SessionEndsFrom net sites talk (stored_from told after begun now) opening status histories events
    → SessionEndsFrom net sites talk (stored_from given after faults now) opening status histories events
unfolding run_over session_over
session_ends_from net sites talk told given after faults begun now opening status histories events tells later (inl breaks) = inl (record {
  off = record {
    last = breaks.off.last;
    legal = subst (λ (b : Bool). AreLegalTimes net b opening breaks.off.last histories) tells breaks.off.legal;
    over = breaks.off.over;
    entries = breaks.off.entries;
    all = breaks.off.all;
    told = breaks.off.told;
    faults = breaks.off.faults;
    kept = breaks.off.kept;
    count = rose_since (length (lost_in histories)) faults begun breaks.off.faults later breaks.off.count;
    later = breaks.off.later;
    bytes = breaks.off.bytes;
    status_is = breaks.off.status_is;
  };
  exchanges = breaks.exchanges;
  start = breaks.start;
  shows = breaks.shows;
  parts = breaks.parts;
  stand = breaks.stand;
  timed = breaks.timed;
  played = subst (λ (b : Bool). PlaysLines net sites b 1 [] false (at_start net sites opening) breaks.start breaks.exchanges breaks.parts breaks.stand) tells breaks.played;
  lasts = breaks.lasts;
  goes = breaks.goes;
  turns = breaks.turns;
  stops = breaks.stops;
  taken = breaks.taken;
})
session_ends_from net sites talk told given after faults begun now opening status histories events tells later (inr (inl whole)) = inr (inl (record {
  exchanges = whole.exchanges;
  start = whole.start;
  session = session_over net sites (is_some told) (is_some given) opening whole.start whole.exchanges histories events tells whole.session;
  left = leaves_from net told given after faults begun now histories whole.session.run.end later whole.left;
  lasts = whole.lasts;
  end = whole.end;
  stops = whole.stops;
  timed = whole.timed;
  said = whole.said;
}))
session_ends_from net sites talk told given after faults begun now opening status histories events tells later (inr (inr (inl part))) = inr (inr (inl (record {
  exchanges = part.exchanges;
  start = part.start;
  session = session_over net sites (is_some told) (is_some given) opening part.start part.exchanges histories events tells part.session;
  left = leaves_from net told given after faults begun now histories part.session.run.end later part.left;
  lasts = part.lasts;
  given = part.given;
  timed = part.timed;
  turns = part.turns;
  piece = part.piece;
  shown = part.shown;
  last = part.last;
  part = part.part;
  status_is = part.status_is;
})))
session_ends_from net sites talk told given after faults begun now opening status histories events tells later (inr (inr (inr fails))) = inr (inr (inr (record {
  exchanges = fails.exchanges;
  start = fails.start;
  last = fails.last;
  session = session_over net sites (is_some told) (is_some given) opening fails.start fails.exchanges histories events tells fails.session;
  asked = fails.asked;
  known = fails.known;
  given = fails.given;
  timed = fails.timed;
  told = fails.told;
  faults = fails.faults;
  left = leaves_from net told given fails.told faults begun fails.faults histories fails.session.run.end later fails.left;
  lasts = fails.lasts;
  fault = fails.fault;
  failed = fails.failed;
  later = fails.later;
  named = fails.named;
  only = only_fault told given (fails.fault ≡ StoreFault) tells fails.only;
  said = fails.said;
})))

-- the session, from what its store told
pub session_runs_from : AreFlown → AreSafe → (net : Net) (sites : Sites) (talk : Talked) (given : Option (List ℕ)) (faults : ℕ) (hand : Hand) (left : Left) (status : ℕ) → IsBegun net sites hand
    → hand.book.told ≡ option_map (marked net) given → IfSome given (λ bytes. Recovered net bytes hand.book.state.changes) → IsReadable given → faults ≤ hand.book.faults
    → SessionEnded net sites talk hand.book left status → SessionFrom net sites talk (stored_from given left.told faults left.faults) status left.histories left.events
session_runs_from flown safe net sites talk given faults hand left status begun told changes readable later ended = record {
  opening = hand.book.state.changes;
  opens = record { told = changes; readable = readable; follow = begun.follow; few = subst (λ (n : Net). AreFew n hand.book.state.changes) begun.network begun.few };
  world = ended.world;
  safe = frames_safe flown safe (opening_on net hand.book.state.changes) (reverse left.events) ended.world.world;
  ends = session_ends_from net sites talk hand.book.told given left.told faults hand.book.faults left.faults hand.book.state.changes status left.histories left.events
      (ap is_some told ∙ tells_marked net given) later ended.ends;
}

-- memory ran out before anything was run, or the first recovery failed
pub session_nothing_run : (net : Net) (sites : Sites) (talk : Talked) (stored : Stored) (fault : RecoverFault) (status : ℕ) (histories : List History) (events : List Event)
    → IsOpenFault net stored.before stored.after stored.faults_before stored.faults_after fault → stored.faults_before ≤ stored.faults_after → histories ≡ [] → events ≡ []
    → SaysNamed talk [] fault status → SessionTo net sites talk stored status histories events
session_nothing_run net sites talk stored fault status histories events failed later none quiet (inl early) = inl (record {
  none = record { none = none; quiet = quiet; later = later };
  bytes = left_unopened net stored.before stored.after stored.faults_before stored.faults_after fault failed;
  status_is = early.0;
})
session_nothing_run net sites talk stored fault status histories events failed later none quiet (inr (named, told)) = inr (inl (record {
  fault = fault;
  failed = named_fault net stored.before stored.after stored.faults_before stored.faults_after fault named failed;
  named = named;
  none = record { none = none; quiet = quiet; later = later };
  said = told;
}))

-- the same of what is in hand under another name
pub session_ended_of : (net : Net) (sites : Sites) (talk : Talked) (hand other : Hand) (left : Left) (status : ℕ) → hand ≡ other → SessionEnded net sites talk hand.book left status → SessionEnded net sites talk other.book left status
session_ended_of net sites talk hand other left status same ended = subst (λ (h : Hand). SessionEnded net sites talk h.book left status) same ended

-- the same of what is given back
pub session_nothing_left : (net : Net) (sites : Sites) (talk : Talked) (stored : Stored) (told : Option (List ℕ)) (faults : ℕ) (fault : RecoverFault) (status s : ℕ) (histories : List History) (events : List Event)
    → stored.after ≡ told → stored.faults_after ≡ faults → status ≡ s → IsOpenFault net stored.before told stored.faults_before faults fault → stored.faults_before ≤ faults
    → histories ≡ [] → events ≡ [] → SaysNamed talk [] fault s → SessionTo net sites talk stored status histories events
session_nothing_left net sites talk stored told faults fault status s histories events told_is faults_are status_is failed later none quiet said =
    session_nothing_run net sites talk stored fault status histories events
    (subst (λ (t : Option (List ℕ)). IsOpenFault net stored.before t stored.faults_before stored.faults_after fault) (sym told_is)
    (subst (λ (f : ℕ). IsOpenFault net stored.before told stored.faults_before f fault) (sym faults_are) failed))
    (subst (λ (f : ℕ). stored.faults_before ≤ f) (sym faults_are) later) none quiet
    (subst (λ (n : ℕ). SaysNamed talk [] fault n) (sym status_is) said)
