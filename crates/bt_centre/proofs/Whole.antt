-- What holds of what a run has in hand holds of it with the entries that its book handed over, too.
use Rattle.std.proofs.Common.{◌≡◌, ◌||◌, length, ℕ, Bool, true, false, if◌then◌else◌, List, [], ◌∷◌, ◌++◌, map, None, refl, sym, ap, ◌∙◌, subst, append_assoc, inl, inr}
use Rattle.std.specs.Prelude.{IfSome}
use Rattle.std.specs.List.{cons_option}
use Rattle.std.proofs.lemmas.List.{append-nil}
use Rattle.std.proofs.lemmas.List.Elements.{filter_map-append}
use Rattle.std.proofs.lemmas.List.Folds.{list_any-append}
use Rattle.bt_net.specs.Network.{Net}
use Rattle.bt_journal.specs.declared.call.Change.{Change}
use Rattle.bt_journal.specs.declared.entry.Entry.{Entry}
use Rattle.bt_journal.specs.Journal.{change_asked, changes_of}
use Rattle.bt_history.specs.declared.fault.RecoverFault.{RecoverFault}
use Rattle.bt_history.specs.Book.{Books}
use Rattle.bt_history.specs.Machine.{AreSteps, State, running, state_after, state_from}
use Rattle.bt_history.specs.Store.{IsKept, IsNextOpening, change_lost, lost_of}
use Rattle.bt_history.proofs.Histories.{tells_fault, AreSteps-append, Step-adds, after_call, same_state, state_from-append, state_from-first, state_from-none}
use Rattle.bt_history.proofs.Replies.{no_fault_not_lost}
use Rattle.bt_script.specs.declared.script.Item.{Item}
use Rattle.bt_script.specs.declared.script.Round.{Round}
use Rattle.bt_round.specs.AirLines.{AirState}
use Rattle.bt_round.specs.Rounds.{BookRan}
use Rattle.bt_centre.specs.declared.history.History.{History}
use Rattle.bt_centre.specs.Progress.{GoesOn, Hand, IsLeftAtRestart, IsLeftEarly, IsLeftOf, ItemFailed, Left, RestartPlayed, RoundPlayed, history_in}
use Rattle.bt_centre.specs.Handed.{with_front}
use Rattle.bt_centre.specs.Whole.{has_fault, IsLive, prefixed, whole, whole_left}
use Rattle.bt_centre.proofs.Lawful.{steps_first}

-- a test of two that is not passed: neither of them is
or_first : (a b : Bool) → (a || b) ≡ false → a ≡ false
or_first true b is = is
or_first false b is = refl

or_second : (a b : Bool) → (a || b) ≡ false → b ≡ false
or_second true b is = cc
or_second false b is = is

-- entries that tell of no fault lost no change
pub none_lost : (entries : List Entry) → has_fault entries ≡ false → lost_of entries ≡ []
none_lost [] none = refl
none_lost (first ∷ rest) none =
    ap (λ (lost : Bool). cons_option (if lost then change_asked first.call else None) (lost_of rest)) (no_fault_not_lost first.reply (or_first _ (has_fault rest) none))
    ∙ none_lost rest (or_second _ (has_fault rest) none)

-- so no other change is lost with them in front
pub lost_front : (front more : List Entry) → has_fault front ≡ false → lost_of (front ++ more) ≡ lost_of more
lost_front front more none =
    filter_map-append (λ (e : Entry). change_lost e.call e.reply) front more ∙ ap (λ (l : List Change). l ++ lost_of more) (none_lost front none)

-- a last part of the steps, from the state after those before it
pub steps_later : (net : Net) (old : State) (a b : List Entry) → AreSteps net old (a ++ b) → AreSteps net (state_from old a) b
steps_later net old [] b steps = subst (λ (s : State). AreSteps net s b) (sym (state_from-none old)) steps
steps_later net old (first ∷ rest) b (between, step, steps) =
    let is : between ≡ after_call old first.call first.reply = Step-adds net old first.call first.reply between step in
    subst (λ (s : State). AreSteps net s b) (ap (λ (s : State). state_from s rest) is ∙ sym (state_from-first old first rest)) (steps_later net between rest b steps)

-- a machine that answered these entries is one that began with their changes
running_front : (opening : List Change) (front : List Entry) → has_fault front ≡ false → state_after opening front ≡ running (opening ++ changes_of front)
running_front opening front none = same_state (state_after opening front) (running (opening ++ changes_of front)) refl none

reached_front : (opening : List Change) (front more : List Entry) → has_fault front ≡ false → state_after opening (front ++ more) ≡ state_after (opening ++ changes_of front) more
reached_front opening front more none = state_from-append (running opening) front more ∙ ap (λ (s : State). state_from s more) (running_front opening front none)

-- a book that ran with these entries in front
ran_whole : (front : List Entry) (old new : Books) → has_fault front ≡ false → BookRan old new → BookRan (prefixed front old) (prefixed front new)
ran_whole front old new none ran = record {
  net = ran.net;
  entries = ran.entries;
  kept = ap (λ (h : List Entry). front ++ h) ran.kept ∙ sym (append_assoc front old.history ran.entries);
  from = ran.from;
  legal = λ opening legal reached.
      let runs = running_front opening front none in
      let behind = subst (λ (s : State). AreSteps old.net s old.history) runs (steps_later old.net (running opening) front old.history legal) in
      let goes = ran.legal (opening ++ changes_of front) behind (reached ∙ reached_front opening front old.history none) in
      AreSteps-append old.net (running opening) front new.history (steps_first old.net (running opening) front old.history legal)
      (subst (λ (s : State). AreSteps old.net s new.history) (sym runs) goes);
  reached = λ opening reached.
      ran.reached (opening ++ changes_of front) (reached ∙ reached_front opening front old.history none) ∙ sym (reached_front opening front new.history none);
  follows = ran.follows;
  rose = ran.rose;
  tells = ran.tells;
  last = ran.last;
}

goes_whole : (times : List History) (front : List Entry) (old new : Hand) → has_fault front ≡ false → GoesOn old new → GoesOn (whole times front old) (whole times front new)
goes_whole times front old new none goes = record { over = refl; before = goes.before; ran = ran_whole front old.book new.book none goes.ran; world = goes.world }

-- a round was played
pub round_whole : (net : Net) (round : Round) (times : List History) (front : List Entry) (old new : Hand) (text : List ℕ) → IsLive front old → RoundPlayed net round old new text
    → RoundPlayed net round (whole times front old) (whole times front new) text
round_whole net round times front old new text live played = record {
  goes = goes_whole times front old new live.sound played.goes;
  rounds = played.rounds;
  done = record {
    entries = played.done.entries;
    sights = played.done.sights;
    air_text = played.done.air_text;
    desks = played.done.desks;
    planner = played.done.planner;
    centre = played.done.centre;
    kept = ap (λ (h : List Entry). front ++ h) played.done.kept ∙ sym (append_assoc front old.book.history played.done.entries);
    seen = played.done.seen;
    shown = played.done.shown;
    ascend = played.done.ascend;
    printed = played.done.printed;
  };
}

-- a time is over
pub restart_whole : (net : Net) (times : List History) (front : List Entry) (old new : Hand) (text : List ℕ) → IsLive front old → RestartPlayed net old new text
    → RestartPlayed net (whole times front old) (whole (times ++ with_front front (history_in old) ∷ []) [] new) text
restart_whole net times front old new text live played = record {
  over = refl;
  before = played.before;
  network = played.network;
  none = played.none;
  runs = played.runs;
  follow = played.follow;
  few = played.few;
  next = subst (λ (l : List Change). IfSome old.book.told (λ _. IsNextOpening old.book.state.changes l new.book.state.changes)) (sym (lost_front front old.book.history live.sound)) played.next;
  tells = played.tells;
  later = played.later;
  last = played.last;
  rounds = played.rounds;
  centre = played.centre;
}

-- the history of the present time alone is left
one_left : (hand : Hand) (histories : List History) → hand.over ≡ [] → histories ≡ hand.over ++ history_in hand ∷ [] → histories ≡ history_in hand ∷ []
one_left hand histories none is = is ∙ ap (λ (o : List History). o ++ history_in hand ∷ []) none

histories_whole : (times : List History) (front : List Entry) (hand : Hand) (histories : List History) → hand.over ≡ [] → histories ≡ hand.over ++ history_in hand ∷ []
    → times ++ map (with_front front) histories ≡ times ++ with_front front (history_in hand) ∷ []
histories_whole times front hand histories none is = ap (λ (h : List History). times ++ map (with_front front) h) (one_left hand histories none is)

kept_whole : (front : List Entry) (book : Books) → has_fault front ≡ false → IsKept book.net book.told book.state.changes (lost_of book.history)
    → IsKept book.net book.told book.state.changes (lost_of (front ++ book.history))
kept_whole front book none kept = subst (λ (l : List Change). IsKept book.net book.told book.state.changes l) (sym (lost_front front book.history none)) kept

-- what is left where a session stops
pub left_whole : (times : List History) (front : List Entry) (hand : Hand) (left : Left) → IsLive front hand → IsLeftOf hand left → IsLeftOf (whole times front hand) (whole_left times front left)
left_whole times front hand left live is = record {
  told = is.told;
  faults = is.faults;
  crashes = is.crashes;
  histories = histories_whole times front hand left.histories live.over is.histories;
  events = is.events;
  world = is.world;
  kept = kept_whole front hand.book live.sound is.kept;
}

-- where memory ran out over a part
pub early_whole : (times : List History) (front : List Entry) (old : Hand) (left : Left) → IsLive front old → IsLeftEarly old left → IsLeftEarly (whole times front old) (whole_left times front left)
early_whole times front old left live is = record {
  hand = whole times front is.hand;
  goes = goes_whole times front old is.hand live.sound is.goes;
  histories = histories_whole times front is.hand left.histories (is.goes.over ∙ live.over) is.histories;
  kept = kept_whole front is.hand.book live.sound is.kept;
  cut = is.cut;
  later = is.later;
  last = is.last;
  world = is.world;
}

-- and where the recovery at a restart failed
at_restart_whole : (net : Net) (times : List History) (front : List Entry) (old : Hand) (left : Left) (fault : RecoverFault) → IsLive front old → IsLeftAtRestart net old left fault
    → IsLeftAtRestart net (whole times front old) (whole_left times front left) fault
at_restart_whole net times front old left fault live is = record {
  named = is.named;
  failed = is.failed;
  later = is.later;
  only = is.only;
  last = is.last;
  histories = histories_whole times front old left.histories live.over is.histories;
  events = is.events;
  world = is.world;
  kept = kept_whole front old.book live.sound is.kept;
}

pub failed_whole : (net : Net) (one : Item) (times : List History) (front : List Entry) (old : Hand) (left : Left) (fault : RecoverFault) → IsLive front old → ItemFailed net one old left fault
    → ItemFailed net one (whole times front old) (whole_left times front left) fault
failed_whole net one times front old left fault live (inl (named, is)) = inl (named, early_whole times front old left live is)
failed_whole net one times front old left fault live (inr (asked, is)) = inr (asked, at_restart_whole net times front old left fault live is)

-- a test of two that are not passed
neither_of : (a b : Bool) → a ≡ false → b ≡ false → (a || b) ≡ false
neither_of true b is other = cc
neither_of false b is other = other

no_fault_more : (first more : List Entry) → has_fault first ≡ false → has_fault more ≡ false → has_fault (first ++ more) ≡ false
no_fault_more first more none other = list_any-append tells_fault first more ∙ neither_of (has_fault first) (has_fault more) none other

-- behind a round
pub live_round : (net : Net) (round : Round) (front : List Entry) (old new : Hand) (text : List ℕ) → IsLive front old → RoundPlayed net round old new text → IsLive front new
live_round net round front old new text live played =
    let ran = played.goes.ran in
    record {
      over = played.goes.over ∙ live.over;
      sound = live.sound;
      sure = λ runs.
          let both : (old.book.state.stopped || has_fault ran.entries) ≡ false = sym (ap (λ (s : State). s.stopped) ran.from) ∙ runs in
          ap has_fault ran.kept ∙ no_fault_more old.book.history ran.entries (live.sure (or_first old.book.state.stopped (has_fault ran.entries) both))
          (or_second old.book.state.stopped (has_fault ran.entries) both);
    }

-- and where the air alone is another
pub live_hears : (front : List Entry) (old new : Hand) (air : AirState) → new ≡ record old { air = air } → IsLive front old → IsLive front new
live_hears front old new air is live = subst (IsLive front) (sym is) (record { over = live.over; sound = live.sound; sure = live.sure })

-- entries that a book hands over tell of no fault
handed_sound : (stopped : Bool) (entries old : List Entry) → (stopped ≡ false → entries ≡ old) → (stopped ≡ true → entries ≡ []) → (stopped ≡ false → has_fault old ≡ false)
    → has_fault entries ≡ false
handed_sound true entries old taken kept sure = ap has_fault (kept refl)
handed_sound false entries old taken kept sure = ap has_fault (taken refl) ∙ sure refl

-- those in front, with more behind them, are in front of the rest
pub handed_on : (times after : List History) (front more counted entries : List Entry) (old new : Hand) → after ≡ times → more ≡ front ++ counted → counted ≡ entries
    → whole new.over entries new ≡ old → whole after more new ≡ whole times front old
handed_on times after front more counted entries old new same is all handed =
    ap (λ (t : List History). whole t more new) same
    ∙ ap (λ (f : List Entry). whole times f new) (is ∙ ap (λ (e : List Entry). front ++ e) all)
    ∙ ap (λ (h : List Entry). let hand : Hand = record { over = times; before = new.before; book = record { net = new.book.net; state = new.book.state; history = h; told = new.book.told; faults = new.book.faults; crashes = new.book.crashes }; air = new.air; rounds = new.rounds } in hand)
    (append_assoc front entries new.book.history)
    ∙ ap (whole times front) handed

live_with : (front entries : List Entry) (old new : Hand) → whole new.over entries new ≡ old → (old.book.state.stopped ≡ false → new.book.history ≡ [])
    → (old.book.state.stopped ≡ true → entries ≡ []) → IsLive front old → IsLive (front ++ entries) new
live_with front entries old new handed none kept live =
    let history : entries ++ new.book.history ≡ old.book.history = ap (λ (h : Hand). h.book.history) handed in
    let stops : new.book.state.stopped ≡ old.book.state.stopped = ap (λ (h : Hand). h.book.state.stopped) handed in
    record {
      over = ap (λ (h : Hand). h.over) handed ∙ live.over;
      sound = no_fault_more front entries live.sound (handed_sound old.book.state.stopped entries old.book.history
          (λ runs. sym (append-nil entries) ∙ ap (λ (n : List Entry). entries ++ n) (sym (none runs)) ∙ history) kept live.sure);
      sure = λ runs. ap has_fault (none (sym stops ∙ runs));
    }

pub live_handed : (front more counted entries : List Entry) (old new : Hand) → more ≡ front ++ counted → counted ≡ entries → whole new.over entries new ≡ old
    → (old.book.state.stopped ≡ false → new.book.history ≡ []) → (old.book.state.stopped ≡ true → entries ≡ []) → IsLive front old → IsLive more new
live_handed front more counted entries old new is all handed none kept live =
    subst (λ (f : List Entry). IsLive f new) (sym (is ∙ ap (λ (e : List Entry). front ++ e) all)) (live_with front entries old new handed none kept live)

-- one history alone is left where a session stops
pub one_of_stop : (hand : Hand) (left : Left) → hand.over ≡ [] → IsLeftOf hand left → length left.histories ≡ 1
one_of_stop hand left none is = ap length (one_left hand left.histories none is.histories)

pub one_of_early : (old : Hand) (left : Left) → old.over ≡ [] → IsLeftEarly old left → length left.histories ≡ 1
one_of_early old left none is = ap length (one_left is.hand left.histories (is.goes.over ∙ none) is.histories)

pub one_of_failed : (net : Net) (one : Item) (old : Hand) (left : Left) (fault : RecoverFault) → old.over ≡ [] → ItemFailed net one old left fault → length left.histories ≡ 1
one_of_failed net one old left fault none (inl (named, is)) = one_of_early old left none is
one_of_failed net one old left fault none (inr (asked, is)) = ap length (one_left old left.histories none is.histories)

-- a run in its first time, before the first entry
pub whole_new : (times : List History) (front : List Entry) (hand : Hand) → times ≡ [] → front ≡ [] → hand.over ≡ [] → whole times front hand ≡ hand
whole_new times front hand none nothing first =
    ap (λ (t : List History). whole t front hand) (none ∙ sym first) ∙ ap (λ (f : List Entry). whole hand.over f hand) nothing

pub live_new : (front : List Entry) (hand : Hand) → front ≡ [] → hand.over ≡ [] → hand.book.history ≡ [] → IsLive front hand
live_new front hand nothing first none = record { over = first; sound = ap has_fault nothing; sure = λ runs. ap has_fault none }

-- a run that was begun again behind a restart: the time that is over is one of the times, and nothing was handed over since
pub begun_whole : (times after : List History) (front rest : List Entry) (past : History) (over : List History) (run new : Hand) → run ≡ record new { over = over } → new.over ≡ []
    → after ≡ times ++ with_front front past ∷ [] → rest ≡ [] → whole after rest new ≡ whole (times ++ with_front front past ∷ []) [] run
begun_whole times after front rest past over run new is none all nothing =
    ap (λ (t : List History). whole t rest new) all
    ∙ ap (λ (f : List Entry). whole (times ++ with_front front past ∷ []) f new) nothing
    ∙ ap (whole (times ++ with_front front past ∷ []) []) (sym is)

-- the one time that is over behind a restart
pub over_behind : (net : Net) (old new : Hand) (text : List ℕ) → old.over ≡ [] → RestartPlayed net old new text → new.over ≡ history_in old ∷ []
over_behind net old new text none played = one_left old new.over none played.over

-- entries that a book hands over stand in front of those that it keeps
handed : (stopped : Bool) (entries old new : List Entry) → (stopped ≡ false → entries ≡ old) → (stopped ≡ false → new ≡ []) → (stopped ≡ true → entries ≡ [])
    → (stopped ≡ true → new ≡ old) → entries ++ new ≡ old
handed true entries old new taken none kept history = ap (λ (e : List Entry). e ++ new) (kept refl) ∙ history refl
handed false entries old new taken none kept history = ap (λ (n : List Entry). entries ++ n) (none refl) ∙ (append-nil entries ∙ taken refl)

pub handed_back : (entries : List Entry) (old new : Books) → (old.state.stopped ≡ false → entries ≡ old.history) → (old.state.stopped ≡ false → new.history ≡ [])
    → (old.state.stopped ≡ true → entries ≡ []) → (old.state.stopped ≡ true → new.history ≡ old.history) → new.net ≡ old.net → new.state ≡ old.state → new.told ≡ old.told
    → new.faults ≡ old.faults → new.crashes ≡ old.crashes → prefixed entries new ≡ old
handed_back entries old new taken none kept history net state told faults crashes =
    let all : entries ++ new.history ≡ old.history = handed old.state.stopped entries old.history new.history taken none kept history in
    rw (all, net, state, told, faults, crashes) refl
