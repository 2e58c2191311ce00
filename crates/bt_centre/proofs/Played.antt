-- Parts of a script, played one after the other.
use Rattle.std.proofs.Common.{◌≡◌, ℕ, suc, ◌+◌, ◌<◌, ◌≤◌, Bool, List, [], ◌∷◌, ◌++◌, length, take, get_or, Option, Some, None, refl, sym, ap, ◌∙◌, subst, append_assoc, arith}
use Rattle.std.specs.List.{All, Contains}
use Rattle.std.specs.Option.{is_some}
use Rattle.std.proofs.Math.Seq.{take-suc}
use Rattle.std.proofs.lemmas.List.{append-nil}
use Rattle.std.proofs.lemmas.List.Elements.{All-append, All-nil}
use Rattle.bt_frame.proofs.Pairs.{AllPairs-append}
use Rattle.bt_outside.specs.Told.{gained}
use Rattle.bt_net.specs.Network.{Net}
use Rattle.bt_script.specs.declared.sites.Sites.{Sites}
use Rattle.bt_script.specs.declared.sites.Sites.TheVariants.{Together}
use Rattle.bt_script.specs.declared.heard.BusLine.{BusLine}
use Rattle.bt_journal.specs.declared.call.Change.{Change}
use Rattle.bt_journal.specs.declared.entry.Entry.{Entry}
use Rattle.bt_journal.specs.Journal.{changes_of}
use Rattle.bt_history.specs.Book.{Books}
use Rattle.bt_history.specs.Causes.{Follows}
use Rattle.bt_history.specs.Changes.{newest, plans}
use Rattle.bt_history.specs.Machine.{Legal, State}
use Rattle.bt_script.specs.declared.script.Item.{Item}
use Rattle.bt_script.specs.declared.script.Item.TheVariants as item
use Rattle.bt_script.specs.declared.script.Round.{Round}
use Rattle.bt_centre.specs.declared.history.History.{History}
use Rattle.bt_round.specs.AirLines.{AirState, PlaysAirLines, back_of, hearing, mark_of}
use Rattle.bt_round.specs.Desks.{IsNotOlder, Sight}
use Rattle.bt_round.specs.Rounds.{newest_at}
use Rattle.bt_round.proofs.Installed.{newest_ascends}
use Rattle.bt_centre.specs.Lines.{begin_lines}
use Rattle.bt_centre.specs.Progress.{CentreBegan, Hand, IsBegun, ItemPlayed, ItemsDone, ItemsWritten, RestartPlayed, RoundPlayed, histories_in, start_of}
use Rattle.bt_centre.specs.Run.{IsNextTime, PlaysItem, PlaysItems, PlaysRestart, PlaysRound, Stand, at_start, changes_at, first_line, histories_at}
use Rattle.bt_centre.proofs.Going.{legal_begins, legal_goes_on, legal_hears, legal_restarts}
use Rattle.bt_centre.proofs.Times.{next_time}

one_more : (n : ℕ) → n + 1 ≡ suc n
one_more n = omega arith

-- no part yet
unfoldable pub items_begin : (net : Net) (sites : Sites) (hand : Hand) → IsBegun net sites hand → ItemsDone net sites hand.book [] hand []
items_begin net sites hand begun = record {
  so_far = legal_begins net sites hand begun;
  end = at_start net sites hand.book.state.changes;
  played = (refl, refl);
  over_is = sym begun.over;
  history_is = sym begun.none;
  air_is = sym begun.air;
  rounds_are = sym begun.rounds;
  old = All-nil (λ (sight : Sight). sight.plan.edition.0 ≤ newest_at hand.book);
  ascend = λ i j d less within. absurd (omega (arith, within));
}

play_more : (net : Net) (tells : Bool) (before between after : Stand) (items : List Item) (one : Item) (text own : List ℕ) → PlaysItems net tells before items text between
    → PlaysItem net tells between one own after → PlaysItems net tells before (items ++ one ∷ []) (text ++ own) after
play_more net tells before between after [] one text own (nothing, same) is =
    (after, own, [], subst (λ (s : Stand). PlaysItem net tells s one own after) same is, (refl, refl), ap (λ (t : List ℕ). t ++ own) nothing ∙ sym (append-nil own))
play_more net tells before between after (first ∷ items) one text own (next, begun, rest, started, going, text_is) is =
    (next, begun, rest ++ own, started, play_more net tells next between after items one rest own going is, ap (λ (t : List ℕ). t ++ own) text_is ∙ append_assoc begun rest own)

-- the changes of a stand are those of the book
pub changes_are : (net : Net) (sites : Sites) (begun : Books) (items : List Item) (hand : Hand) (lines : List ℕ) → (so : ItemsDone net sites begun items hand lines) → changes_at so.end ≡ hand.book.state.changes
changes_are net sites begun items hand lines so =
    ap (λ (h : List Entry). so.end.opening ++ changes_of h) so.history_is
    ∙ sym (ap (λ (s : State). s.changes) so.so_far.reached)

-- the stand after a round
abbrev after_round : Stand → Hand → List Sight → Stand
after_round before hand sights = record {
  over = before.over;
  opening = before.opening;
  history = hand.book.history;
  air = hand.air;
  rounds = hand.rounds;
  sights = before.sights ++ sights;
}

-- a round makes the newest plan no older
newest_later : (net : Net) (round : Round) (old new : Hand) (text : List ℕ) → RoundPlayed net round old new text → Follows net new.book.state.changes → newest_at old.book ≤ newest_at new.book
newest_later net round old new text one follow =
    let is : new.book.state.changes ≡ old.book.state.changes ++ changes_of one.goes.ran.entries = ap (λ (s : State). s.changes) one.goes.ran.from in
    omega (
      arith,
      newest_ascends net old.book.state.changes (changes_of one.goes.ran.entries) (subst (Follows net) is follow),
      ap (λ (c : List Change). (newest c).edition.0) is,
    )

-- a part more, and the way from where the parts before it led
pub record Further (net : Net) (sites : Sites) (begun : Books) (items : List Item) (one : Item) (new : Hand) (lines own : List ℕ) (before : Stand) : Type 0 where
  pub done : ItemsDone net sites begun (items ++ one ∷ []) new (lines ++ own)
  pub way : PlaysItem net (is_some begun.told) before one own done.end

-- a round more
items_go_on : (net : Net) (sites : Sites) (begun : Books) (items : List Item) (round : Round) (old new : Hand) (lines own : List ℕ)
    → (so : ItemsDone net sites begun items old lines) → RoundPlayed net round old new own → Further net sites begun items (item.Round round) new lines own so.end
items_go_on net sites begun items round old new lines own so one =
    let tells = is_some begun.told in
    let before = so.end in
    let done = one.done in
    let legal = legal_goes_on net begun before.opening old new one.goes so.so_far in
    let after = after_round before new done.sights in
    let ascend = AllPairs-append IsNotOlder before.sights done.sights so.ascend done.ascend
    (λ k d within j e inside. λ same. omega (arith, so.old k d within, (done.seen j e inside).fresh)) in
    let changes_after : before.opening ++ changes_of new.book.history ≡ new.book.state.changes =
    sym (ap (λ (s : State). s.changes) legal.reached) in
    let rounds_are : new.rounds ≡ before.rounds + 1 = one.rounds ∙ ap (λ n. n + 1) (sym so.rounds_are) in
    let played : PlaysRound net before round own after = record {
      entries = done.entries;
      sights = done.sights;
      air_text = done.air_text;
      desks = done.desks;
      planner = done.planner;
      centre = subst (λ (a : AirState). PlaysAirLines net a round.air _ done.air_text new.air) (sym so.air_is) done.centre;
      kept = done.kept ∙ ap (λ (h : List Entry). h ++ done.entries) (sym so.history_is);
      opening = refl;
      over = refl;
      counted = rounds_are;
      seen = λ k d within. record {
        installed = subst (λ (c : List Change). Contains (plans c) (get_or done.sights k d).plan) (sym changes_after) (done.seen k d within).installed;
        fresh = subst (λ (c : List Change). (newest c).edition.0 ≤ (get_or done.sights k d).plan.edition.0) (sym (changes_are net sites begun items old lines so)) (done.seen k d within).fresh;
      };
      shown = done.shown;
      later = refl;
      ascend = ascend;
      printed = done.printed;
    } in
    record {
      way = played;
      done = record {
        so_far = legal;
        end = after;
        played = play_more net tells (at_start net sites begun.state.changes) before after items (item.Round round) lines own so.played played;
        over_is = so.over_is ∙ sym one.goes.over;
        history_is = refl;
        air_is = refl;
        rounds_are = refl;
        old = All-append (λ (sight : Sight). sight.plan.edition.0 ≤ newest_at new.book) before.sights done.sights
            (λ k d within. omega (arith, so.old k d within, newest_later net round old new own one legal.follow))
            (λ k d within. (done.seen k d within).last);
        ascend = ascend;
      };
    }

-- the stand after a restart
abbrev after_restart : Stand → Hand → Stand
after_restart before hand = record {
  over = hand.over;
  opening = hand.book.state.changes;
  history = [];
  air = hand.air;
  rounds = hand.rounds;
  sights = [];
}

-- the histories of a stand are those in hand
pub same_histories : (stand : Stand) (hand : Hand) → hand.over ≡ stand.over → hand.before ≡ length stand.opening → hand.book.history ≡ stand.history → histories_in hand ≡ histories_at stand
same_histories stand hand over before history =
    ap (λ (l : List History). l ++ record { before = hand.before; entries = hand.book.history } ∷ []) over
    ∙ ap (λ n. stand.over ++ record { before = n; entries = hand.book.history } ∷ []) before
    ∙ ap (λ (h : List Entry). stand.over ++ record { before = length stand.opening; entries = h } ∷ []) history

-- a restart more
items_restart : (net : Net) (sites : Sites) (begun : Books) (items : List Item) (old new : Hand) (lines own : List ℕ)
    → (so : ItemsDone net sites begun items old lines) → RestartPlayed net old new own → Further net sites begun items item.Restart new lines own so.end
items_restart net sites begun items old new lines own so one =
    let tells = is_some begun.told in
    let before = so.end in
    let after = after_restart before new in
    let was = so.so_far in
    let centre = subst (λ (a : AirState). CentreBegan new.book.state.changes a new.air own) (sym so.air_is) one.centre in
    let next = next_time old.book.told tells old.book.state.changes before.opening new.book.state.changes old.book.history was.tells one.next (ap (λ (s : State). s.changes) was.reached) in
    let played : PlaysRestart net tells before own after = record {
      kept = centre.kept;
      joins = centre.joins;
      air = centre.restarts;
      next = subst (λ (h : List Entry). IsNextTime tells before.opening h new.book.state.changes) (sym so.history_is) next;
      legal = subst (Legal net before.opening) (sym so.history_is) was.legal;
      follow = one.follow;
      few = one.few;
      over = one.over ∙ same_histories before old (sym so.over_is) was.before (sym so.history_is);
      none = refl;
      counted = one.rounds ∙ sym so.rounds_are;
      unseen = refl;
      printed = centre.printed;
    } in
    record {
      way = played;
      done = record {
        so_far = legal_restarts net begun before.opening old new own one was;
        end = after;
        played = play_more net tells (at_start net sites begun.state.changes) before after items item.Restart lines own so.played played;
        over_is = refl;
        history_is = sym one.none;
        air_is = refl;
        rounds_are = refl;
        old = All-nil (λ (sight : Sight). sight.plan.edition.0 ≤ newest_at new.book);
        ascend = λ i j d less within. absurd (omega (arith, within));
      };
    }

-- the stand once a line of the bus was heard
abbrev after_heard : Stand → BusLine → Stand
after_heard before line = record before { air = hearing before.air line }

-- a line of the bus more
items_hear : (net : Net) (sites : Sites) (begun : Books) (items : List Item) (line : BusLine) (old new : Hand) (lines own : List ℕ)
    → (so : ItemsDone net sites begun items old lines) → ItemPlayed net (item.Heard line) old new own → Further net sites begun items (item.Heard line) new lines own so.end
items_hear net sites begun items line old new lines own so (nothing, is) =
    let before = so.end in
    let after = after_heard before line in
    let book : new.book ≡ old.book = ap (λ (h : Hand). h.book) is in
    record {
      way = (nothing, refl);
      done = record {
        so_far = legal_hears net begun before.opening old new line is so.so_far;
        end = after;
        played = play_more net (is_some begun.told) (at_start net sites begun.state.changes) before after items (item.Heard line) lines own so.played (nothing, refl);
        over_is = so.over_is ∙ sym (ap (λ (h : Hand). h.over) is);
        history_is = so.history_is ∙ sym (ap (λ (b : Books). b.history) book);
        air_is = ap (λ (a : AirState). hearing a line) so.air_is ∙ sym (ap (λ (h : Hand). h.air) is);
        rounds_are = so.rounds_are ∙ sym (ap (λ (h : Hand). h.rounds) is);
        old = subst (λ (b : Books). All (λ (sight : Sight). sight.plan.edition.0 ≤ newest_at b) before.sights) (sym book) so.old;
        ascend = so.ascend;
      };
    }

-- the line of a run's start
pub start_is : (net : Net) (sites : Sites) (hand : Hand) → IsBegun net sites hand → start_of hand ≡ first_line net sites hand.book.state.changes
start_is net sites hand begins = ap (λ (a : AirState). begin_lines hand.book.state.changes (mark_of a) (back_of a)) begins.air

-- a part more, with the way that it took
pub item_goes_further : (net : Net) (sites : Sites) (begun : Books) (items : List Item) (one : Item) (old new : Hand) (lines own : List ℕ)
    → (so : ItemsDone net sites begun items old lines) → ItemPlayed net one old new own → Further net sites begun items one new lines own so.end
item_goes_further net sites begun items (item.Round round) old new lines own so played = items_go_on net sites begun items round old new lines own so played
item_goes_further net sites begun items item.Restart old new lines own so played = items_restart net sites begun items old new lines own so played
item_goes_further net sites begun items (item.Heard line) old new lines own so played = items_hear net sites begun items line old new lines own so played

-- a part more
pub item_goes_on : (net : Net) (sites : Sites) (begun : Books) (items : List Item) (one : Item) (old new : Hand) (lines own : List ℕ)
    → ItemsDone net sites begun items old lines → ItemPlayed net one old new own → ItemsDone net sites begun (items ++ one ∷ []) new (lines ++ own)
item_goes_on net sites begun items one old new lines own so played = (item_goes_further net sites begun items one old new lines own so played).done

-- what is written in two pieces
pub gained-append : (told : Option (List ℕ)) (a b : List ℕ) → gained (gained told a) b ≡ gained told (a ++ b)
gained-append None a b = refl
gained-append (Some held) a b = ap Some (append_assoc held a b)

pub next_parts : (items : List Item) (index : ℕ) (one : Item) → index < length items → one ≡ get_or items index one → take (index + 1) items ≡ take index items ++ one ∷ []
next_parts items index one within is =
    ap (λ n. take n items) (one_more index) ∙ take-suc items index one within ∙ ap (λ (x : Item). take index items ++ x ∷ []) (sym is)

-- the first line was written
pub written_first : (net : Net) (hand : Hand) (begins : IsBegun net Together hand) (before after : Option (List ℕ)) → after ≡ gained before (start_of hand) → ItemsWritten net hand.book [] hand before after
written_first net hand begins before after wrote = record {
  lines = [];
  done = items_begin net Together hand begins;
  wrote = wrote ∙ ap (gained before) (start_is net Together hand begins ∙ sym (append-nil (first_line net Together hand.book.state.changes)));
}

-- a part more was written
pub written_more : (net : Net) (begun : Books) (items : List Item) (index : ℕ) (one : Item) (old new : Hand) (own : List ℕ) (before between after : Option (List ℕ))
    → index < length items → one ≡ get_or items index one → ItemsWritten net begun (take index items) old before between → ItemPlayed net one old new own → after ≡ gained between own
    → ItemsWritten net begun (take (index + 1) items) new before after
written_more net begun items index one old new own before between after within is so played wrote =
    let first = first_line net Together begun.state.changes in
    subst (λ (l : List Item). ItemsWritten net begun l new before after) (sym (next_parts items index one within is)) (record {
      lines = so.lines ++ own;
      done = item_goes_on net Together begun (take index items) one old new so.lines own so.done played;
      wrote = wrote ∙ ap (λ (t : Option (List ℕ)). gained t own) so.wrote ∙ gained-append before (first ++ so.lines) own ∙ ap (gained before) (append_assoc first so.lines own);
    })

-- a part is one round at most
pub rounds_more : (net : Net) (one : Item) (old new : Hand) (text : List ℕ) (k : ℕ) → ItemPlayed net one old new text → old.rounds ≤ k → new.rounds ≤ k + 1
rounds_more net (item.Round round) old new text k played few = omega (arith, played.rounds, few)
rounds_more net item.Restart old new text k played few = omega (arith, played.rounds, few)
rounds_more net (item.Heard line) old new text k (nothing, is) few = omega (arith, ap (λ (h : Hand). h.rounds) is, few)
