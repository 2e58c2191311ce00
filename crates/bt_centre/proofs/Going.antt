-- A run goes on by legal times.
use Rattle.std.proofs.Common.{◌≡◌, ℕ, List, [], ◌∷◌, ◌++◌, length, length-append, append_assoc, reverse, refl, sym, ap, ◌∙◌, subst, arith, inl}
use Rattle.std.specs.Option.{is_some}
use Rattle.std.proofs.lemmas.List.{append-nil}
use Rattle.bt_net.specs.Network.{Net}
use Rattle.bt_script.specs.declared.heard.BusLine.{BusLine}
use Rattle.bt_script.specs.declared.sites.Sites.{Sites}
use Rattle.bt_journal.specs.declared.call.Change.{Change}
use Rattle.bt_journal.specs.declared.entry.Entry.{Entry}
use Rattle.bt_journal.specs.Journal.{changes_of}
use Rattle.bt_script.specs.declared.script.Round.{Round}
use Rattle.bt_history.specs.Book.{Books}
use Rattle.bt_history.specs.Causes.{Follows}
use Rattle.bt_history.specs.Changes.{orders}
use Rattle.bt_history.specs.Crash.{Last}
use Rattle.bt_history.specs.Machine.{Legal, State, running, state_after, state_from}
use Rattle.bt_history.specs.Recovery.{MaybeRecovered}
use Rattle.bt_history.specs.Store.{IsKept, RoseBy, lost_of}
use Rattle.bt_history.proofs.Histories.{state_from-append, state_from-none}
use Rattle.bt_history.proofs.Lasting.{last_first, last_then}
use Rattle.bt_centre.specs.declared.history.History.{History}
use Rattle.bt_round.specs.AirLines.{hearing, opening_in}
use Rattle.bt_round.specs.Rounds.{BookRan}
use Rattle.bt_round.proofs.Closing.{ran_nothing}
use Rattle.bt_site.specs.Event.{Opening}
use Rattle.bt_centre.specs.Answering.{LastsIn, RoundsPlayed}
use Rattle.bt_centre.specs.Progress.{GoesOn, Hand, IsBegun, IsLeftEarly, IsLeftOf, IsLegalHand, Left, RestartPlayed, RoundPlayed, histories_in, history_in}
use Rattle.bt_centre.specs.Run.{AreLegalTimes, AreTimes, BreaksOff, IsLegalHistory, lost_in, opening_on}
use Rattle.bt_centre.proofs.Airs.{opening_hearing, opening_restarting, opening_start}
use Rattle.bt_centre.proofs.Times.{lost_count, lost_more, lost_of-append, next_time, rose_on, rose_still, times_more}
use Rattle.bt_centre.specs.World.{IsSpelledWorld}

-- a book that was asked nothing
pub ran_none : (net : Net) (book : Books) → book.net ≡ net → Follows net book.state.changes → BookRan book book
ran_none net book network follow = ran_nothing book (subst (λ (n : Net). Follows n book.state.changes) (sym network) follow)

-- what was left where a run stops at once
pub left_early : (net : Net) (hand : Hand) (left : Left) → hand.book.net ≡ net → Follows net hand.book.state.changes → IsLeftOf hand left → IsLeftEarly hand left
left_early net hand left network follow is = record {
  hand = hand;
  goes = record { over = refl; before = refl; ran = ran_none net hand.book network follow; world = refl };
  histories = is.histories;
  kept = is.kept;
  cut = inl (inl is.told);
  later = omega (arith, is.faults);
  last = λ now. subst (Last hand.book.net hand.book.state.changes hand.book.crashes) (sym is.crashes) now;
  world = is.world;
}

-- what was left where memory ran out later in a part
pub left_on : (old hand : Hand) (left : Left) → GoesOn old hand → IsLeftOf hand left → IsLeftEarly old left
left_on old hand left goes is = record {
  hand = hand;
  goes = goes;
  histories = is.histories;
  kept = is.kept;
  cut = inl (inl is.told);
  later = omega (arith, is.faults);
  last = λ now. subst (Last old.book.net old.book.state.changes old.book.crashes) (sym is.crashes) (goes.ran.last now);
  world = subst (λ (o : Opening). IsSpelledWorld o (reverse left.events)) goes.world is.world;
}

-- a run at its start
pub legal_begins : (net : Net) (sites : Sites) (hand : Hand) → IsBegun net sites hand → IsLegalHand net hand.book hand.book.state.changes hand
legal_begins net sites hand begun = record {
  network = begun.network;
  before = begun.before;
  times = subst (λ (over : List History). AreTimes net (is_some hand.book.told) hand.book.state.changes over hand.book.state.changes) (sym begun.over) refl;
  opens = begun.follow;
  legal = subst (Legal net hand.book.state.changes) (sym begun.none) tt;
  reached = begun.runs ∙ sym (state_from-none (running hand.book.state.changes)) ∙ ap (state_after hand.book.state.changes) (sym begun.none);
  follow = begun.follow;
  count = inl (omega (
    arith,
    lost_count hand.over (history_in hand),
    ap (λ (l : List History). length (lost_in l)) begun.over,
    ap (λ (l : List Entry). length (lost_of l)) begun.none,
  ));
  tells = refl;
  world = ap opening_in begun.air ∙ opening_start sites (opening_on net hand.book.state.changes);
}

-- the run goes on in the present time
pub legal_goes_on : (net : Net) (begun : Books) (opening : List Change) (old new : Hand) → GoesOn old new → IsLegalHand net begun opening old → IsLegalHand net begun opening new
legal_goes_on net begun opening old new goes so = record {
  network = goes.ran.net ∙ so.network;
  before = goes.before ∙ so.before;
  times = subst (λ (over : List History). AreTimes net (is_some begun.told) begun.state.changes over opening) (sym goes.over) so.times;
  opens = so.opens;
  legal = subst (λ (n : Net). Legal n opening new.book.history) so.network
      (goes.ran.legal opening (subst (λ (n : Net). Legal n opening old.book.history) (sym so.network) so.legal) so.reached);
  reached = goes.ran.reached opening so.reached;
  follow = subst (λ (n : Net). Follows n new.book.state.changes) so.network goes.ran.follows;
  count = rose_on (length (lost_in (histories_in old))) _ (length (lost_in (histories_in new))) begun.faults old.book.faults new.book.faults
      (ap (λ (over : List History). length (lost_in (over ++ history_in new ∷ []))) goes.over ∙ lost_more old.over (history_in old) (history_in new) goes.ran.entries goes.ran.kept)
      so.count goes.ran.rose;
  tells = goes.ran.tells ∙ so.tells;
  world = goes.world ∙ so.world;
}

-- the history of the present time is legal
pub legal_present : (net : Net) (begun : Books) (opening : List Change) (hand : Hand) → IsLegalHand net begun opening hand → IsLegalHistory net opening (history_in hand)
legal_present net begun opening hand so = record { counted = so.before; follow = so.opens; legal = so.legal }

-- so are those of all times
pub legal_times : (net : Net) (begun : Books) (opening : List Change) (hand : Hand) → IsLegalHand net begun opening hand
    → AreLegalTimes net (is_some begun.told) begun.state.changes opening (histories_in hand)
legal_times net begun opening hand so = record { over = hand.over; present = history_in hand; all = refl; times = so.times; legal = legal_present net begun opening hand so }

-- the time is over, and the next begins
pub legal_restarts : (net : Net) (begun : Books) (opening : List Change) (old new : Hand) (text : List ℕ) → RestartPlayed net old new text → IsLegalHand net begun opening old
    → IsLegalHand net begun new.book.state.changes new
legal_restarts net begun opening old new text played so =
    let tells = is_some begun.told in
    let next = next_time old.book.told tells old.book.state.changes opening new.book.state.changes old.book.history so.tells played.next (ap (λ (s : State). s.changes) so.reached) in
    record {
      network = played.network;
      before = played.before;
      times = subst (λ (over : List History). AreTimes net tells begun.state.changes over new.book.state.changes) (sym played.over)
          (times_more net tells begun.state.changes opening new.book.state.changes old.over (history_in old) so.times (legal_present net begun opening old so) next);
      opens = played.follow;
      legal = subst (Legal net new.book.state.changes) (sym played.none) tt;
      reached = played.runs ∙ sym (state_from-none (running new.book.state.changes)) ∙ ap (state_after new.book.state.changes) (sym played.none);
      follow = played.follow;
      count = rose_still (length (lost_in (histories_in old))) (length (lost_in (histories_in new))) begun.faults old.book.faults new.book.faults
          (omega (
            arith,
            lost_count new.over (history_in new),
            ap (λ (l : List History). length (lost_in l)) played.over,
            ap (λ (l : List Entry). length (lost_of l)) played.none,
          )) so.count played.later;
      tells = played.tells ∙ so.tells;
      world = ap opening_in played.centre.restarts ∙ opening_restarting old.air played.centre.kept (reverse (orders new.book.state.changes)) ∙ so.world;
    }

-- the centre heard a line of the bus
pub legal_hears : (net : Net) (begun : Books) (opening : List Change) (old new : Hand) (line : BusLine) → new ≡ record old { air = hearing old.air line } → IsLegalHand net begun opening old
    → IsLegalHand net begun opening new
legal_hears net begun opening old new line is so = subst (IsLegalHand net begun opening) (sym is) (record {
  network = so.network;
  before = so.before;
  times = so.times;
  opens = so.opens;
  legal = so.legal;
  reached = so.reached;
  follow = so.follow;
  count = so.count;
  tells = so.tells;
  world = opening_hearing old.air line ∙ so.world;
})

-- memory ran out over a part of a legal run
pub breaks_off : (net : Net) (begun : Books) (opening : List Change) (old : Hand) (left : Left) (status : ℕ) → IsLegalHand net begun opening old → IsLeftEarly old left → status ≡ 1
    → BreaksOff net (record { before = begun.told; after = left.told; faults_before = begun.faults; faults_after = left.faults }) begun.state.changes status left.histories
breaks_off net begun opening old left status so is status_is =
    let now = legal_goes_on net begun opening old is.hand is.goes so in
    let history = is.hand.book.history in
    let told = is.hand.book.told in
    record {
      last = opening;
      legal = subst (AreLegalTimes net (is_some begun.told) begun.state.changes opening) (sym is.histories) (legal_times net begun opening is.hand now);
      over = is.hand.over;
      entries = history;
      all = is.histories ∙ ap (λ (n : ℕ). is.hand.over ++ record { before = n; entries = history } ∷ []) now.before;
      told = told;
      faults = is.hand.book.faults;
      kept = subst (λ (c : List Change). IsKept net told c (lost_of history)) (ap (λ (s : State). s.changes) now.reached)
          (subst (λ (n : Net). IsKept n told is.hand.book.state.changes (lost_of history)) now.network is.kept);
      count = subst (λ (l : List History). RoseBy (length (lost_in l)) begun.faults is.hand.book.faults) (sym is.histories) now.count;
      later = is.later;
      bytes = subst (λ (n : Net). MaybeRecovered n told left.told is.hand.book.faults left.faults) now.network is.cut;
      status_is = status_is;
    }

-- a book that ran, and ran on
ran_then : (a b c : Books) → BookRan a b → Last b.net b.state.changes b.crashes b.crashes → BookRan b c → BookRan a c
ran_then a b c one lasts two =
    let grown : b.state.changes ≡ a.state.changes ++ changes_of one.entries = ap (λ (s : State). s.changes) one.from in
    record {
      net = two.net ∙ one.net;
      entries = one.entries ++ two.entries;
      kept = two.kept ∙ ap (λ (h : List Entry). h ++ two.entries) one.kept ∙ append_assoc a.history one.entries two.entries;
      from = two.from ∙ ap (λ (s : State). state_from s two.entries) one.from ∙ sym (state_from-append a.state one.entries two.entries);
      legal = λ opening legal reached. subst (λ (n : Net). Legal n opening c.history) one.net
          (two.legal opening (subst (λ (n : Net). Legal n opening b.history) (sym one.net) (one.legal opening legal reached)) (one.reached opening reached));
      reached = λ opening reached. two.reached opening (one.reached opening reached);
      follows = subst (λ (n : Net). Follows n c.state.changes) one.net two.follows;
      rose = rose_on (length (lost_of one.entries)) (length (lost_of two.entries)) (length (lost_of (one.entries ++ two.entries))) a.faults b.faults c.faults
          (ap length (lost_of-append one.entries two.entries) ∙ length-append (lost_of one.entries) (lost_of two.entries)) one.rose two.rose;
      tells = two.tells ∙ one.tells;
      last = λ now. last_then a.net a.state.changes a.crashes b.crashes c.crashes (one.last now)
          (last_first a.net a.state.changes (changes_of one.entries) b.crashes c.crashes
          (subst (λ (l : List Change). Last a.net l b.crashes c.crashes) grown (subst (λ (n : Net). Last n b.state.changes b.crashes c.crashes) one.net (two.last lasts))));
    }

-- a run that went on, and went on further
pub goes_then : (a b c : Hand) → GoesOn a b → LastsIn b → GoesOn b c → GoesOn a c
goes_then a b c one lasts two = record {
  over = two.over ∙ one.over;
  before = two.before ∙ one.before;
  ran = ran_then a.book b.book c.book one.ran lasts two.ran;
  world = two.world ∙ one.world;
}

-- over rounds
pub rounds_go_on : (net : Net) (rounds : List Round) (old new : Hand) (text : List ℕ) → old.book.net ≡ net → Follows net old.book.state.changes → RoundsPlayed net rounds old new text → GoesOn old new
rounds_go_on net [] old new text network follow (same, nothing) =
    subst (GoesOn old) (sym same) (record { over = refl; before = refl; ran = ran_none net old.book network follow; world = refl })
rounds_go_on net (round ∷ rounds) old new text network follow (between, own, rest, played, lasts, more, text_is) =
    let goes = played.goes in
    goes_then old between new goes lasts
    (rounds_go_on net rounds between new rest (goes.ran.net ∙ network) (subst (λ (n : Net). Follows n between.book.state.changes) network goes.ran.follows) more)

-- a round more behind others
pub rounds_append : (net : Net) (rounds : List Round) (round : Round) (old between new : Hand) (text more : List ℕ) → RoundsPlayed net rounds old between text → RoundPlayed net round between new more → LastsIn new
    → RoundsPlayed net (rounds ++ round ∷ []) old new (text ++ more)
rounds_append net [] round old between new text more (same, nothing) played lasts = (
  new,
  more,
  [],
  subst (λ (h : Hand). RoundPlayed net round h new more) same played,
  lasts,
  (refl, refl),
  ap (λ (t : List ℕ). t ++ more) nothing ∙ sym (append-nil more),
)
rounds_append net (first ∷ rounds) round old between new text more (next, own, rest, begun, lasts_next, going, text_is) played lasts = (
  next,
  own,
  rest ++ more,
  begun,
  lasts_next,
  rounds_append net rounds round next between new rest more going played lasts,
  ap (λ (t : List ℕ). t ++ more) text_is ∙ append_assoc own rest more,
)

-- where memory ran out behind some rounds
pub left_behind_rounds : (net : Net) (rounds : List Round) (old between : Hand) (left : Left) (text : List ℕ) → old.book.net ≡ net → Follows net old.book.state.changes → LastsIn between → RoundsPlayed net rounds old between text
    → IsLeftEarly between left → IsLeftEarly old left
left_behind_rounds net rounds old between left text network follow lasts played is =
    let goes = rounds_go_on net rounds old between text network follow played in
    let grown : between.book.state.changes ≡ old.book.state.changes ++ changes_of goes.ran.entries = ap (λ (s : State). s.changes) goes.ran.from in
    record {
      hand = is.hand;
      goes = goes_then old between is.hand goes lasts is.goes;
      histories = is.histories;
      kept = is.kept;
      cut = is.cut;
      later = is.later;
      last = λ now. last_then old.book.net old.book.state.changes old.book.crashes between.book.crashes left.crashes (goes.ran.last now)
          (last_first old.book.net old.book.state.changes (changes_of goes.ran.entries) between.book.crashes left.crashes
          (subst (λ (l : List Change). Last old.book.net l between.book.crashes left.crashes) grown
          (subst (λ (n : Net). Last n between.book.state.changes between.book.crashes left.crashes) goes.ran.net (is.last lasts))));
      world = subst (λ (o : Opening). IsSpelledWorld o (reverse left.events)) goes.world is.world;
    }
