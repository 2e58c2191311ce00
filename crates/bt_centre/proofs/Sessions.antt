-- Lines of a session, played and answered one after the other.
use Rattle.std.proofs.Common.{◌≡◌, ℕ, suc, ◌+◌, ◌*◌, ◌≤◌, Bool, false, inl, inr, List, [], ◌∷◌, ◌++◌, length, length-append, map, Option, Some, None, refl, sym, ap, ◌∙◌, subst, append_assoc, arith}
use Rattle.std.specs.Option.{is_some}
use Rattle.std.proofs.lemmas.List.{append-nil, map-append}
use Rattle.bt_outside.specs.Crash.{Crashes}
use Rattle.bt_outside.specs.Told.{gained}
use Rattle.bt_outside.specs.declared.source.Incoming.{Incoming}
use Rattle.bt_outside.specs.Input.{Comes, said_by}
use Rattle.bt_outside.specs.Talk.{Shown, Turn, Heard, Said, heard, said, took}
use Rattle.bt_net.specs.Network.{Net}
use Rattle.bt_script.specs.declared.sites.Sites.{Sites}
use Rattle.bt_history.specs.Book.{Books}
use Rattle.bt_history.specs.Crash.{Last}
use Rattle.bt_history.specs.Machine.{State, state_after}
use Rattle.bt_history.specs.Store.{IsKept, lost_of}
use Rattle.bt_history.proofs.Lasting.{last_now, last_then}
use Rattle.bt_journal.specs.declared.call.Change.{Change}
use Rattle.bt_journal.specs.declared.entry.Entry.{Entry}
use Rattle.bt_journal.specs.Journal.{changes_of}
use Rattle.bt_script.specs.declared.line.ScriptLine.{ScriptLine}
use Rattle.bt_script.specs.declared.script.Item.{Item}
use Rattle.bt_script.specs.declared.script.Round.{Round}
use Rattle.bt_script.specs.declared.script.Item.TheVariants as item
use Rattle.bt_talk.specs.declared.block.Query.{Query}
use Rattle.bt_talk.specs.declared.block.Step.{Step}
use Rattle.bt_talk.specs.declared.block.Step.TheVariants as step
use Rattle.bt_talk.proofs.InTurn.{turns_few}
use Rattle.bt_talk.specs.Answers.{answer_of, ready_line}
use Rattle.bt_talk.specs.Asked.{Came, open_behind, rounds_in_turn, row_behind, timed_after, timed_behind}
use Rattle.bt_talk.specs.Block.{IsStepFor}
use Rattle.bt_talk.specs.Blocks.{Open, line_bytes, row_of}
use Rattle.bt_talk.specs.Clock.{TicksAll, TicksIf}
use Rattle.bt_centre.specs.Answering.{GaveSince, LastsIn, SessionDone, SessionGoing, RoundsPlayed, SessionSaid, StepPlayed, Took}
use Rattle.bt_centre.specs.Progress.{Hand, IsBegun, ItemPlayed, ItemsDone, start_of}
use Rattle.bt_centre.specs.Run.{PlaysItems, Stand, at_start, changes_at, state_at}
use Rattle.bt_centre.specs.Session.{Exchange, PlaysLines, PlaysStep, ShowsChanges, came_in, heard_in, opening_text, row_in, session_turns, shown_behind, told_in, told_list, turns_in}
use Rattle.bt_centre.specs.Talked.{spoken}
use Rattle.bt_centre.specs.Told.{IsTold}
use Rattle.bt_history.specs.Causes.{Follows}
use Rattle.bt_round.specs.AirLines.{AirState}
use Rattle.bt_round.specs.Trial.{AllTried}
use Rattle.bt_round.specs.Rounds.{LastOn}
use Rattle.bt_centre.proofs.Going.{rounds_go_on}
use Rattle.bt_centre.proofs.InTurn.{rounds_count}
use Rattle.bt_centre.proofs.Played.{changes_are, gained-append, item_goes_further, items_begin, rounds_more, start_is}

-- what came of an input
abbrev pub Given : Type 0
Given = Option (List ℕ)

-- what a clock is to tell, where that is told
abbrev pub Moments : Type 0
Moments = Option (List (List ℕ))

-- what is said in two lists of turns
spoken-append : (a b : List Turn) → spoken (a ++ b) ≡ spoken a ++ spoken b
spoken-append [] b = refl
spoken-append (Heard line ∷ a) b = spoken-append a b
spoken-append (Said piece shown ∷ a) b = ap (λ (t : List ℕ). piece ++ t) (spoken-append a b) ∙ sym (append_assoc piece (spoken a) (spoken b))

-- turns that were taken one list after the other
took-append : (turns : Option (List Turn)) (a b : List Turn) → took (took turns a) b ≡ took turns (a ++ b)
took-append None a b = refl
took-append (Some turns) a b = ap Some (append_assoc turns a b)

-- where none were taken
pub took-nil : (turns : Option (List Turn)) → turns ≡ took turns []
took-nil None = refl
took-nil (Some turns) = ap Some (sym (append-nil turns))

gained-nil : (told : Option (List ℕ)) → told ≡ gained told []
gained-nil None = refl
gained-nil (Some held) = ap Some (sym (append-nil held))

-- no turn yet
pub took_none : (told : Option (List ℕ)) (turns : Option (List Turn)) → Took [] told told turns turns
took_none told turns = record { wrote = gained-nil told; turn = took-nil turns }

-- a piece more was said
pub took_said : (turns : List Turn) (piece : List ℕ) (shown : Shown) (before between after : Option (List ℕ)) (t0 t1 t2 : Option (List Turn)) → Took turns before between t0 t1
    → after ≡ gained between piece → t2 ≡ took t1 (said piece shown) → Took (turns ++ Said piece shown ∷ []) before after t0 t2
took_said turns piece shown before between after t0 t1 t2 so wrote turn = record {
  wrote = wrote ∙ ap (λ (t : Option (List ℕ)). gained t piece) so.wrote ∙ gained-append before (spoken turns) piece
      ∙ ap (gained before) (sym (spoken-append turns (Said piece shown ∷ []) ∙ ap (λ (t : List ℕ). spoken turns ++ t) (append-nil piece)));
  turn = turn ∙ ap (λ (t : Option (List Turn)). took t (said piece shown)) so.turn ∙ took-append t0 turns (said piece shown);
}

-- a line more was heard
pub took_heard : (turns : List Turn) (came : Incoming) (before between after : Option (List ℕ)) (t0 t1 t2 : Option (List Turn)) → Took turns before between t0 t1
    → after ≡ between → t2 ≡ took t1 (heard (Some came)) → Took (turns ++ Heard (said_by came) ∷ []) before after t0 t2
took_heard turns came before between after t0 t1 t2 so same turn = record {
  wrote = same ∙ so.wrote ∙ ap (gained before) (sym (spoken-append turns (Heard (said_by came) ∷ []) ∙ append-nil (spoken turns)));
  turn = turn ∙ ap (λ (t : Option (List Turn)). took t (heard (Some came))) so.turn ∙ took-append t0 turns (heard (Some came));
}

-- the end of the input was heard
pub took_end : (turns : List Turn) (before between after : Option (List ℕ)) (t0 t1 t2 : Option (List Turn)) → Took turns before between t0 t1
    → after ≡ between → t2 ≡ took t1 [] → Took turns before after t0 t2
took_end turns before between after t0 t1 t2 so same turn = record { wrote = same ∙ so.wrote; turn = turn ∙ sym (took-nil t1) ∙ so.turn }

-- the same turns
pub took_same : (turns : List Turn) (before between after : Option (List ℕ)) (t0 t1 t2 : Option (List Turn)) → Took turns before between t0 t1
    → after ≡ between → t2 ≡ t1 → Took turns before after t0 t2
took_same turns before between after t0 t1 t2 so same turn = record { wrote = same ∙ so.wrote; turn = turn ∙ so.turn }

-- the lines with one more
pub heard_more : (exchanges : List Exchange) (one : Exchange) → heard_in (exchanges ++ one ∷ []) ≡ heard_in exchanges ++ one.line ∷ []
heard_more exchanges one = map-append (λ (e : Exchange). e.line) exchanges (one ∷ [])

turns_more : (exchanges : List Exchange) (one : Exchange) → turns_in (exchanges ++ one ∷ []) ≡ turns_in exchanges ++ Heard one.line ∷ Said one.piece one.shown ∷ []
turns_more [] one = refl
turns_more (first ∷ exchanges) one = ap (λ (l : List Turn). Heard first.line ∷ Said first.piece first.shown ∷ l) (turns_more exchanges one)

-- the turns with those of one exchange more
pub session_turns_more : (net : Net) (sites : Sites) (opening : List Change) (start : Shown) (exchanges : List Exchange) (one : Exchange)
    → session_turns net sites opening start (exchanges ++ one ∷ []) ≡ (session_turns net sites opening start exchanges ++ Heard one.line ∷ []) ++ Said one.piece one.shown ∷ []
session_turns_more net sites opening start exchanges one =
    ap (λ (l : List Turn). Said (opening_text net sites opening) start ∷ l) (turns_more exchanges one)
    ∙ sym (append_assoc (session_turns net sites opening start exchanges) (Heard one.line ∷ []) (Said one.piece one.shown ∷ []))

-- the same with the changes that were made
came_more : (exchanges : List Exchange) (one : Exchange) → came_in (exchanges ++ one ∷ []) ≡ came_in exchanges ++ (one.known, one.line) ∷ []
came_more exchanges one = map-append (λ (e : Exchange). (let c : Came = (e.known, e.line) in c)) exchanges (one ∷ [])

-- they are as many
pub came_count : (exchanges : List Exchange) → length (came_in exchanges) ≡ length (heard_in exchanges)
came_count [] = refl
came_count (first ∷ exchanges) = ap suc (came_count exchanges)

-- what the clock told, with what it told to one more
told_more : (exchanges : List Exchange) (one : Exchange) → told_in (exchanges ++ one ∷ []) ≡ told_in exchanges ++ told_list one.told
told_more [] one = append-nil (told_list one.told)
told_more (first ∷ exchanges) one = ap (λ (l : List (List ℕ)). told_list first.told ++ l) (told_more exchanges one) ∙ sym (append_assoc (told_list first.told) (told_in exchanges) (told_list one.told))

-- a clock goes on
pub ticks_append : (a b c : Moments) (first second : List (List ℕ)) → TicksAll a first b → TicksAll b second c → TicksAll a (first ++ second) c
ticks_append a b c [] second same rest = subst (λ (m : Moments). TicksAll m second c) same rest
ticks_append a b c (one ∷ first) second (between, tick, more) rest = (between, tick, ticks_append between b c first second more rest)

pub ticks_if : (a b : Moments) (told : Option (List ℕ)) → TicksIf a told b → TicksAll a (told_list told) b
ticks_if a b None same = same
ticks_if a b (Some told) tick = (b, tick, refl)

pub ticks_more : (a b c : Moments) (exchanges : List Exchange) (one : Exchange) → TicksAll a (told_in exchanges) b → TicksIf b one.told c → TicksAll a (told_in (exchanges ++ one ∷ [])) c
ticks_more a b c exchanges one so tick =
    subst (λ (l : List (List ℕ)). TicksAll a l c) (sym (told_more exchanges one)) (ticks_append a b c (told_in exchanges) (told_list one.told) so (ticks_if b c one.told tick))

-- a line more is played
pub lines_more : (net : Net) (sites : Sites) (tells : Bool) (at : ℕ) (blocks : Open) (timed : Bool) (before between after : Stand) (shown : Shown) (exchanges : List Exchange) (one : Exchange) (row : Open × Step) (own : List ℕ) (n : ℕ) (parts asked : List Item)
    → PlaysLines net sites tells at blocks timed before shown exchanges parts between → row ≡ row_of net sites n (open_behind net sites at blocks (came_in exchanges)) one.known one.line → n ≡ at + length (came_in exchanges)
    → PlaysStep net tells between row.1 asked own after → one.known ≡ changes_at between → is_some one.told ≡ timed_behind (timed_after net sites at blocks timed (came_in exchanges)) row.1
    → one.piece ≡ own ++ answer_of n one.line row one.told → ShowsChanges net after one.shown
    → Last net (changes_at between) (shown_behind shown exchanges).crashes one.shown.crashes → PlaysLines net sites tells at blocks timed before shown (exchanges ++ one ∷ []) (parts ++ asked) after
lines_more net sites tells at blocks timed before between after shown [] one row own n parts asked (same, none) is number played known told piece shows last =
    let here : n ≡ at = omega (arith, number) in
    let row_is : row ≡ row_in net sites at blocks one = is ∙ ap (λ (m : ℕ). row_of net sites m blocks one.known one.line) here in (
      after,
      own,
      asked,
      [],
      subst (λ (s : Stand). PlaysStep net tells s (row_in net sites at blocks one).1 asked own after) same (subst (λ (r : Open × Step). PlaysStep net tells between r.1 asked own after) row_is played),
      (refl, refl),
      ap (λ (l : List Item). l ++ asked) none ∙ sym (append-nil asked),
      known ∙ ap changes_at same,
      told ∙ ap (λ (r : Open × Step). timed_behind timed r.1) row_is,
      piece ∙ ap (λ (m : ℕ). own ++ answer_of m one.line row one.told) here ∙ ap (λ (r : Open × Step). own ++ answer_of at one.line r one.told) row_is,
      shows,
      subst (λ (s : Stand). Last net (changes_at s) shown.crashes one.shown.crashes) same last,
    )
lines_more net sites tells at blocks timed before between after shown (first ∷ exchanges) one row own n parts asked (next, begun, own_parts, others, started, going, parts_are, known_is, told_is, text_is, shown_is, lasts) is number played known told piece shows last =
    let behind = (row_in net sites at blocks first).0 in
    let on = timed_behind timed (row_in net sites at blocks first).1 in (
      next,
      begun,
      own_parts,
      others ++ asked,
      started,
      lines_more net sites tells (at + 1) behind on next between after first.shown exchanges one row own n others asked going is (omega (arith, number)) played known told piece shows last,
      ap (λ (l : List Item). l ++ asked) parts_are ∙ append_assoc own_parts others asked,
      known_is,
      told_is,
      text_is,
      shown_is,
      lasts,
    )

-- the blocks behind them
pub open_more : (net : Net) (sites : Sites) (at : ℕ) (blocks : Open) (lines : List Came) (one : Came) (n : ℕ) → n ≡ at + length lines
    → open_behind net sites at blocks (lines ++ one ∷ []) ≡ (row_of net sites n (open_behind net sites at blocks lines) one.0 one.1).0
open_more net sites at blocks [] one n number = ap (λ (m : ℕ). (row_of net sites m blocks one.0 one.1).0) (let here : at ≡ n = omega (arith, number) in here)
open_more net sites at blocks (first ∷ lines) one n number = open_more net sites (at + 1) (row_of net sites at blocks first.0 first.1).0 lines one n (omega (arith, number))

-- whether answers behind them say when they are given
timed_more : (net : Net) (sites : Sites) (at : ℕ) (blocks : Open) (timed : Bool) (lines : List Came) (one : Came) (n : ℕ) → n ≡ at + length lines
    → timed_after net sites at blocks timed (lines ++ one ∷ []) ≡ timed_behind (timed_after net sites at blocks timed lines) (row_of net sites n (open_behind net sites at blocks lines) one.0 one.1).1
timed_more net sites at blocks timed [] one n number = ap (λ (m : ℕ). timed_behind timed (row_of net sites m blocks one.0 one.1).1) (let here : at ≡ n = omega (arith, number) in here)
timed_more net sites at blocks timed (first ∷ lines) one n number =
    timed_more net sites (at + 1) (row_of net sites at blocks first.0 first.1).0 (timed_behind timed (row_of net sites at blocks first.0 first.1).1) lines one n (omega (arith, number))

-- what lasts of a book in hand are the changes made up to there
last_at : (net : Net) (sites : Sites) (begun : Books) (parts : List Item) (hand : Hand) (lines : List ℕ) (was now : Option Crashes) → (so : ItemsDone net sites begun parts hand lines)
    → Last hand.book.net hand.book.state.changes was now → Last net (changes_at so.end) was now
last_at net sites begun parts hand lines was now so last =
    subst (λ (c : List Change). Last net c was now) (sym (changes_are net sites begun parts hand lines so))
    (subst (λ (n : Net). Last n hand.book.state.changes was now) so.so_far.network last)

last_of_hand : (net : Net) (sites : Sites) (begun : Books) (parts : List Item) (hand : Hand) (lines : List ℕ) (was now : Option Crashes) → (so : ItemsDone net sites begun parts hand lines)
    → Last net (changes_at so.end) was now → Last hand.book.net hand.book.state.changes was now
last_of_hand net sites begun parts hand lines was now so last =
    subst (λ (n : Net). Last n hand.book.state.changes was now) (sym so.so_far.network)
    (subst (λ (c : List Change). Last net c was now) (changes_are net sites begun parts hand lines so) last)

-- what the store told of them when a piece was said
last_shown : (net : Net) (sites : Sites) (begun : Books) (parts : List Item) (hand : Hand) (lines : List ℕ) (shown : Shown) → (so : ItemsDone net sites begun parts hand lines)
    → shown.crashes ≡ hand.book.crashes → LastsIn hand → Last net (changes_at so.end) shown.crashes hand.book.crashes
last_shown net sites begun parts hand lines shown so crashes_are last =
    subst (λ (c : Option Crashes). Last net (changes_at so.end) c hand.book.crashes) (sym crashes_are)
    (last_at net sites begun parts hand lines hand.book.crashes hand.book.crashes so last)

shown_last : (start : Shown) (exchanges : List Exchange) (one : Exchange) → shown_behind start (exchanges ++ one ∷ []) ≡ one.shown
shown_last start [] one = refl
shown_last start (first ∷ exchanges) one = shown_last first.shown exchanges one

last_behind : (net : Net) (sites : Sites) (begun : Books) (parts : List Item) (hand : Hand) (lines : List ℕ) (start : Shown) (exchanges : List Exchange) (one : Exchange) → (so : ItemsDone net sites begun parts hand lines)
    → one.shown.crashes ≡ hand.book.crashes → LastsIn hand → Last net (changes_at so.end) (shown_behind start (exchanges ++ one ∷ [])).crashes hand.book.crashes
last_behind net sites begun parts hand lines start exchanges one so crashes_are last =
    subst (λ (s : Shown). Last net (changes_at so.end) s.crashes hand.book.crashes) (sym (shown_last start exchanges one))
    (last_shown net sites begun parts hand lines one.shown so crashes_are last)

-- changes that lasted up to now last on
pub last_further : (net : Net) (sites : Sites) (begun : Books) (parts : List Item) (hand : Hand) (lines : List ℕ) (was will : Option Crashes) → (so : ItemsDone net sites begun parts hand lines)
    → Last net (changes_at so.end) was hand.book.crashes → LastOn hand.book.net hand.book.state.changes hand.book.crashes will → Last net (changes_at so.end) was will
last_further net sites begun parts hand lines was will so last on =
    last_then net (changes_at so.end) was hand.book.crashes will last
    (last_at net sites begun parts hand lines hand.book.crashes will so
    (on (last_of_hand net sites begun parts hand lines hand.book.crashes hand.book.crashes so (last_now net (changes_at so.end) was hand.book.crashes last))))

-- over a part of a script too
item_last : (net : Net) (one : Item) (old new : Hand) (own : List ℕ) → old.book.net ≡ net → ItemPlayed net one old new own → LastOn old.book.net old.book.state.changes old.book.crashes new.book.crashes
item_last net (item.Round round) old new own network played = played.goes.ran.last
item_last net item.Restart old new own network played = λ now. subst (λ (n : Net). Last n old.book.state.changes old.book.crashes new.book.crashes) (sym network) played.last
item_last net (item.Heard line) old new own network (nothing, is) = λ now. subst (λ (h : Hand). Last old.book.net old.book.state.changes old.book.crashes h.book.crashes) (sym is) now

-- no line yet
pub session_begins : (net : Net) (sites : Sites) (hand : Hand) (start : Shown) → IsBegun net sites hand → start.crashes ≡ hand.book.crashes → LastsIn hand → SessionDone net sites hand.book start [] hand
unfolding items_begin
session_begins net sites hand start begun crashes_are last = record {
  parts = [];
  lines = [];
  done = items_begin net sites hand begun;
  played = (refl, refl);
  lasts = last_shown net sites hand.book [] hand [] start (items_begin net sites hand begun) crashes_are last;
}

-- the line that is heard behind these comes to this, and these blocks are open behind it
abbrev pub IsRow : Net → Sites → List Exchange → Came → Open → Step → Type 0
IsRow net sites exchanges one blocks stp = (let row : Open × Step = (blocks, stp) in row ≡ row_behind net sites (came_in exchanges) one)

-- rounds more, one after the other, and the way from where the parts before them led
record FurtherAll (net : Net) (sites : Sites) (begun : Books) (before : Stand) (rounds : List Round) (all : List Item) (new : Hand) (text own : List ℕ) : Type 0 where
  done : ItemsDone net sites begun all new text
  way : PlaysItems net (is_some begun.told) before (map item.Round rounds) own done.end

rounds_further : (net : Net) (sites : Sites) (begun : Books) (rounds : List Round) (items : List Item) (old new : Hand) (lines own : List ℕ) → (so : ItemsDone net sites begun items old lines) → RoundsPlayed net rounds old new own
    → FurtherAll net sites begun so.end rounds (items ++ map item.Round rounds) new (lines ++ own) own
rounds_further net sites begun [] items old new lines own so (same, nothing) =
    subst (λ (l : List Item). FurtherAll net sites begun so.end [] l new (lines ++ own) own) (sym (append-nil items))
    (subst (λ (t : List ℕ). FurtherAll net sites begun so.end [] items new (lines ++ t) t) (sym nothing)
    (subst (λ (t : List ℕ). FurtherAll net sites begun so.end [] items new t []) (sym (append-nil lines))
    (subst (λ (h : Hand). FurtherAll net sites begun so.end [] items h lines []) (sym same) (record { done = so; way = (refl, refl) }))))
rounds_further net sites begun (round ∷ rounds) items old new lines own so (between, first, rest, played, lasts, more, text_is) =
    let one : Item = item.Round round in
    let begins = item_goes_further net sites begun items one old between lines first so played in
    let others = rounds_further net sites begun rounds (items ++ one ∷ []) between new (lines ++ first) rest begins.done more in
    subst (λ (t : List ℕ). FurtherAll net sites begun so.end (round ∷ rounds) (items ++ one ∷ map item.Round rounds) new (lines ++ t) t) (sym text_is)
    (subst (λ (t : List ℕ). FurtherAll net sites begun so.end (round ∷ rounds) (items ++ one ∷ map item.Round rounds) new t (first ++ rest)) (append_assoc lines first rest)
    (subst (λ (l : List Item). FurtherAll net sites begun so.end (round ∷ rounds) l new ((lines ++ first) ++ rest) (first ++ rest)) (append_assoc items (one ∷ []) (map item.Round rounds))
    (record { done = others.done; way = (begins.done.end, first, rest, begins.way, others.way, refl) })))

-- what a line comes to, once it was played by what a run has in hand, and the way that it took
record StepFurther (net : Net) (sites : Sites) (begun : Books) (before : Stand) (stp : Step) (items : List Item) (new : Hand) (own : List ℕ) : Type 0 where
  pub asked : List Item
  pub all : List Item
  pub all_are : all ≡ items ++ asked
  pub lines : List ℕ
  pub done : ItemsDone net sites begun all new lines
  pub way : PlaysStep net (is_some begun.told) before stp asked own done.end

-- nothing changed
stays : (net : Net) (sites : Sites) (begun : Books) (stp : Step) (items : List Item) (old new : Hand) (lines own : List ℕ) → (so : ItemsDone net sites begun items old lines) → new ≡ old
    → PlaysStep net (is_some begun.told) so.end stp [] own so.end → StepFurther net sites begun so.end stp items new own
stays net sites begun stp items old new lines own so same way =
    subst (λ (h : Hand). StepFurther net sites begun so.end stp items h own) (sym same)
    (record { asked = []; all = items; all_are = sym (append-nil items); lines = lines; done = so; way = way })

-- the state of the book in hand is that of how far it has come
state_is : (net : Net) (sites : Sites) (begun : Books) (parts : List Item) (hand : Hand) (lines : List ℕ) → (so : ItemsDone net sites begun parts hand lines) → hand.book.state ≡ state_at so.end
state_is net sites begun parts hand lines so = so.so_far.reached ∙ ap (state_after so.end.opening) (sym so.history_is)

-- what was told of what a run has in hand was told of how far it has come
told_at : (net : Net) (sites : Sites) (begun : Books) (parts : List Item) (hand : Hand) (lines : List ℕ) (asked : Query) (text : List ℕ) → (so : ItemsDone net sites begun parts hand lines)
    → IsTold net hand.book.state hand.air asked text → IsTold net (state_at so.end) so.end.air asked text
told_at net sites begun parts hand lines asked text so told =
    subst (λ (s : State). IsTold net s so.end.air asked text) (state_is net sites begun parts hand lines so)
    (subst (λ (a : AirState). IsTold net hand.book.state a asked text) (sym so.air_is) told)

-- so was a block that was tried
tried_at : (net : Net) (sites : Sites) (begun : Books) (parts : List Item) (hand : Hand) (lines : List ℕ) (said : List ScriptLine) (refusal : Option (List ℕ)) → (so : ItemsDone net sites begun parts hand lines)
    → AllTried net hand.book.state 1 said refusal → AllTried net (state_at so.end) 1 said refusal
tried_at net sites begun parts hand lines said refusal so tried = subst (λ (s : State). AllTried net s 1 said refusal) (state_is net sites begun parts hand lines so) tried

-- what a line comes to is a way further
step_further : (net : Net) (sites : Sites) (begun : Books) (stp : Step) (items : List Item) (old new : Hand) (lines own : List ℕ) → (so : ItemsDone net sites begun items old lines) → StepPlayed net stp old new own
    → StepFurther net sites begun so.end stp items new own
step_further net sites begun (step.Plays part) items old new lines own so played =
    let further = item_goes_further net sites begun items part old new lines own so played in
    record { asked = part ∷ []; all = items ++ part ∷ []; all_are = refl; lines = lines ++ own; done = further.done; way = (further.way, refl) }
step_further net sites begun step.Nothing items old new lines own so (same, nothing) = stays net sites begun step.Nothing items old new lines own so same (nothing, refl, refl)
step_further net sites begun (step.Fault code) items old new lines own so (same, nothing) = stays net sites begun (step.Fault code) items old new lines own so same (nothing, refl, refl)
step_further net sites begun (step.Clock on) items old new lines own so (same, nothing) = stays net sites begun (step.Clock on) items old new lines own so same (nothing, refl, refl)
step_further net sites begun (step.Tells asked) items old new lines own so (same, told) =
    stays net sites begun (step.Tells asked) items old new lines own so same (told_at net sites begun items old lines asked own so told, refl, refl)
step_further net sites begun (step.All said) items old new lines own so (inl (tried, played)) =
    let rounds = rounds_in_turn said in
    let further = rounds_further net sites begun rounds items old new lines own so played in
    record {
      asked = map item.Round rounds;
      all = items ++ map item.Round rounds;
      all_are = refl;
      lines = lines ++ own;
      done = further.done;
      way = inl (tried_at net sites begun items old lines said None so tried, further.way, refl);
    }
step_further net sites begun (step.All said) items old new lines own so (inr (refusal, tried, text_is, same)) =
    stays net sites begun (step.All said) items old new lines own so same (inr (refusal, tried_at net sites begun items old lines said (Some refusal) so tried, text_is, refl, refl))

-- a store that tells the changes of a book tells those made up to there
pub shown_at : (net : Net) (sites : Sites) (begun : Books) (parts : List Item) (hand : Hand) (lines : List ℕ) (shown : Shown) → (so : ItemsDone net sites begun parts hand lines)
    → IsKept hand.book.net shown.told hand.book.state.changes (lost_of hand.book.history) → ShowsChanges net so.end shown
shown_at net sites begun parts hand lines shown so kept =
    let changes : hand.book.state.changes ≡ changes_at so.end =
    ap (λ (s : State). s.changes) so.so_far.reached ∙ ap (λ (h : List Entry). so.end.opening ++ changes_of h) (sym so.history_is) in
    subst (λ (h : List Entry). IsKept net shown.told (changes_at so.end) (lost_of h)) (sym so.history_is)
    (subst (λ (c : List Change). IsKept net shown.told c (lost_of hand.book.history)) changes
    (subst (λ (n : Net). IsKept n shown.told hand.book.state.changes (lost_of hand.book.history)) so.so_far.network kept))

-- what the store told at the start
pub start_shown : (net : Net) (sites : Sites) (hand : Hand) (start : Shown) → IsBegun net sites hand → IsKept hand.book.net start.told hand.book.state.changes (lost_of hand.book.history)
    → ShowsChanges net (at_start net sites hand.book.state.changes) start
unfolding items_begin
start_shown net sites hand start begun kept = shown_at net sites hand.book [] hand [] start (items_begin net sites hand begun) kept

-- the changes of a book last over what a line comes to
same_last : (old new : Hand) → new ≡ old → LastOn old.book.net old.book.state.changes old.book.crashes new.book.crashes
same_last old new same = λ now. subst (λ (h : Hand). Last old.book.net old.book.state.changes old.book.crashes h.book.crashes) (sym same) now

rounds_last : (net : Net) (rounds : List Round) (old new : Hand) (own : List ℕ) → old.book.net ≡ net → Follows net old.book.state.changes → RoundsPlayed net rounds old new own → LastOn old.book.net old.book.state.changes old.book.crashes new.book.crashes
rounds_last net rounds old new own network follow played = (rounds_go_on net rounds old new own network follow played).ran.last

step_last : (net : Net) (stp : Step) (old new : Hand) (own : List ℕ) → old.book.net ≡ net → Follows net old.book.state.changes → StepPlayed net stp old new own → LastOn old.book.net old.book.state.changes old.book.crashes new.book.crashes
step_last net (step.Plays part) old new own network follow played = item_last net part old new own network played
step_last net step.Nothing old new own network follow (same, nothing) = same_last old new same
step_last net (step.Fault code) old new own network follow (same, nothing) = same_last old new same
step_last net (step.Clock on) old new own network follow (same, nothing) = same_last old new same
step_last net (step.Tells asked) old new own network follow (same, told) = same_last old new same
step_last net (step.All said) old new own network follow (inl (tried, played)) = rounds_last net (rounds_in_turn said) old new own network follow played
step_last net (step.All said) old new own network follow (inr (refusal, tried, text_is, same)) = same_last old new same

-- a line more
pub session_goes_on : (net : Net) (sites : Sites) (begun : Books) (start : Shown) (exchanges : List Exchange) (one : Exchange) (blocks : Open) (timed : Bool) (stp : Step) (old new : Hand) (own : List ℕ) → (so : SessionDone net sites begun start exchanges old)
    → IsRow net sites exchanges (one.known, one.line) blocks stp → StepPlayed net stp old new own → one.known ≡ old.book.state.changes → timed ≡ timed_after net sites 1 [] false (came_in exchanges) → is_some one.told ≡ timed_behind timed stp
    → one.piece ≡ own ++ answer_of (1 + length (came_in exchanges)) one.line (blocks, stp) one.told
    → IsKept new.book.net one.shown.told new.book.state.changes (lost_of new.book.history)
    → one.shown.crashes ≡ new.book.crashes → LastsIn new → SessionDone net sites begun start (exchanges ++ one ∷ []) new
session_goes_on net sites begun start exchanges one blocks timed stp old new own so is played known timed_is told piece kept crashes_are last =
    let further = step_further net sites begun stp so.parts old new so.lines own so.done played in
    record {
      parts = further.all;
      lines = further.lines;
      done = further.done;
      played = subst (λ (l : List Item). PlaysLines net sites (is_some begun.told) 1 [] false (at_start net sites begun.state.changes) start (exchanges ++ one ∷ []) l further.done.end) (sym further.all_are)
          (lines_more net sites (is_some begun.told) 1 [] false (at_start net sites begun.state.changes) so.done.end further.done.end start exchanges one (blocks, stp) own (1 + length (came_in exchanges)) so.parts further.asked so.played is refl further.way
          (known ∙ sym (changes_are net sites begun so.parts old so.lines so.done))
          (told ∙ ap (λ (b : Bool). timed_behind b stp) timed_is)
          piece
          (shown_at net sites begun further.all new further.lines one.shown further.done kept)
          (subst (Last net (changes_at so.done.end) (shown_behind start exchanges).crashes) (sym crashes_are)
          (last_further net sites begun so.parts old so.lines (shown_behind start exchanges).crashes new.book.crashes so.done so.lasts (step_last net stp old new own so.done.so_far.network so.done.so_far.follow played))));
      lasts = last_behind net sites begun further.all new further.lines start exchanges one further.done crashes_are last;
    }

-- the first piece is that of a session that begins so
pub opening_is : (net : Net) (sites : Sites) (hand : Hand) → IsBegun net sites hand → start_of hand ++ ready_line 0 ≡ opening_text net sites hand.book.state.changes
opening_is net sites hand begins = ap (λ (t : List ℕ). t ++ ready_line 0) (start_is net sites hand begins)

-- it was said
pub session_first : (net : Net) (sites : Sites) (hand : Hand) (start : Shown) → IsBegun net sites hand → (before after : Option (List ℕ)) (t0 t1 : Option (List Turn)) (m0 : Moments) → after ≡ gained before (start_of hand ++ ready_line 0)
    → t1 ≡ took t0 (said (start_of hand ++ ready_line 0) start) → IsKept hand.book.net start.told hand.book.state.changes (lost_of hand.book.history)
    → start.crashes ≡ hand.book.crashes → LastsIn hand → SessionSaid net sites hand.book [] hand before after t0 t1 m0 m0
session_first net sites hand start begins before after t0 t1 m0 wrote turn kept crashes_are last = record {
  start = start;
  done = session_begins net sites hand start begins crashes_are last;
  shows = start_shown net sites hand start begins kept;
  taken = subst (λ (p : List ℕ). Took (Said p start ∷ []) before after t0 t1) (opening_is net sites hand begins)
      (took_said [] (start_of hand ++ ready_line 0) start before before after t0 t0 t1 (took_none before t0) wrote turn);
  ticked = refl;
}

-- a line more was answered
pub session_more : (net : Net) (sites : Sites) (begun : Books) (exchanges : List Exchange) (came : Incoming) (blocks : Open) (timed : Bool) (stp : Step) (told : Option (List ℕ)) (old new : Hand) (own piece : List ℕ) (start shown : Shown) (before between after : Option (List ℕ)) (t0 t1 t2 : Option (List Turn)) (m0 m1 m2 : Moments)
    → SessionDone net sites begun start exchanges old → ShowsChanges net (at_start net sites begun.state.changes) start → Took (session_turns net sites begun.state.changes start exchanges ++ Heard (said_by came) ∷ []) before between t0 t1
    → TicksAll m0 (told_in exchanges) m1 → IsRow net sites exchanges (old.book.state.changes, said_by came) blocks stp
    → StepPlayed net stp old new own → timed ≡ timed_after net sites 1 [] false (came_in exchanges) → is_some told ≡ timed_behind timed stp → TicksIf m1 told m2
    → piece ≡ own ++ answer_of (1 + length (came_in exchanges)) (said_by came) (blocks, stp) told → after ≡ gained between piece → t2 ≡ took t1 (said piece shown)
    → IsKept new.book.net shown.told new.book.state.changes (lost_of new.book.history) → shown.crashes ≡ new.book.crashes → LastsIn new
    → SessionSaid net sites begun (exchanges ++ record { known = old.book.state.changes; line = said_by came; told = told; piece = piece; shown = shown } ∷ []) new before after t0 t2 m0 m2
session_more net sites begun exchanges came blocks timed stp told old new own piece start shown before between after t0 t1 t2 m0 m1 m2 so shows taken ticked is played timed_is told_is tick piece_is wrote turn kept crashes_are last =
    let one : Exchange = record { known = old.book.state.changes; line = said_by came; told = told; piece = piece; shown = shown } in
    let turns = session_turns net sites begun.state.changes start exchanges ++ Heard (said_by came) ∷ [] in
    record {
      start = start;
      done = session_goes_on net sites begun start exchanges one blocks timed stp old new own so is played refl timed_is told_is piece_is kept crashes_are last;
      shows = shows;
      taken = subst (λ (l : List Turn). Took l before after t0 t2) (sym (session_turns_more net sites begun.state.changes start exchanges one)) (took_said turns piece shown before between after t0 t1 t2 taken wrote turn);
      ticked = ticks_more m0 m1 m2 exchanges one ticked tick;
    }

-- a line plays as many rounds at most as a block has lines
pub rounds_behind : (net : Net) (stp : Step) (old new : Hand) (text : List ℕ) (k : ℕ) → IsStepFor net stp → StepPlayed net stp old new text → old.rounds + 20000 ≤ 20000 * k → new.rounds + 20000 ≤ 20000 * (k + 1)
rounds_behind net (step.Plays one) old new text k named played few = omega (arith, rounds_more net one old new text (old.rounds) played (omega arith), few)
rounds_behind net step.Nothing old new text k named (same, nothing) few = omega (arith, ap (λ (h : Hand). h.rounds) same, few)
rounds_behind net (step.Fault code) old new text k named (same, nothing) few = omega (arith, ap (λ (h : Hand). h.rounds) same, few)
rounds_behind net (step.Clock on) old new text k named (same, nothing) few = omega (arith, ap (λ (h : Hand). h.rounds) same, few)
rounds_behind net (step.Tells one) old new text k named (same, told) few = omega (arith, ap (λ (h : Hand). h.rounds) same, few)
rounds_behind net (step.All said) old new text k named (inl (tried, played)) few = omega (arith, rounds_count net (rounds_in_turn said) old new text played, turns_few said, named.1, few)
rounds_behind net (step.All said) old new text k named (inr (refusal, tried, text_is, same)) few = omega (arith, ap (λ (h : Hand). h.rounds) same, few)

-- what came, of so many bytes at most
pub comes_of : (sites : Sites) (limit : ℕ) (now next : Option (List ℕ)) (came one : Option Incoming) → limit ≡ line_bytes sites → came ≡ one → Comes limit now came next
    → Comes (line_bytes sites) now one next
comes_of sites limit now next came one is same comes =
    subst (λ (n : ℕ). Comes n now one next) is (subst (λ (o : Option Incoming). Comes limit now o next) same comes)

-- an input gave one more
pub gave_more : (sites : Sites) (coming now next : Option (List ℕ)) (lines : List Given) (came : Incoming) → GaveSince sites coming now lines → Comes (line_bytes sites) now (Some came) next → GaveSince sites coming next (lines ++ said_by came ∷ [])
gave_more sites (Some bytes) (Some rest) (Some left) lines came gave comes =
    gave ∙ ap (λ (l : List Given). lines ++ l) comes ∙ sym (append_assoc lines (said_by came ∷ []) _)
gave_more sites None None None lines came gave comes = tt
gave_more sites (Some bytes) (Some rest) None lines came gave comes = absurd comes
gave_more sites (Some bytes) None next lines came gave comes = absurd gave
gave_more sites None (Some rest) next lines came gave comes = absurd gave
gave_more sites None None (Some left) lines came gave comes = absurd comes

-- an input gave nothing yet
pub gave_none : (sites : Sites) (coming : Option (List ℕ)) → GaveSince sites coming coming []
gave_none sites (Some bytes) = refl
gave_none sites None = tt

-- a session at its start
pub going_first : (net : Net) (sites : Sites) (hand : Hand) (start : Shown) → IsBegun net sites hand → (coming now before after : Option (List ℕ)) (t0 t1 : Option (List Turn)) (m0 : Moments) → now ≡ coming → after ≡ gained before (start_of hand ++ ready_line 0)
    → t1 ≡ took t0 (said (start_of hand ++ ready_line 0) start) → IsKept hand.book.net start.told hand.book.state.changes (lost_of hand.book.history)
    → start.crashes ≡ hand.book.crashes → LastsIn hand → SessionGoing net sites hand.book 1 [] false hand coming now before after t0 t1 m0 m0
going_first net sites hand start begins coming now before after t0 t1 m0 same wrote turn kept crashes_are last = record {
  exchanges = [];
  count = refl;
  open_is = refl;
  timed_is = refl;
  gave = subst (λ (c : Option (List ℕ)). GaveSince sites coming c []) (sym same) (gave_none sites coming);
  said = session_first net sites hand start begins before after t0 t1 m0 wrote turn kept crashes_are last;
}

-- the row of a line in a session that came so far
pub row_is : (net : Net) (sites : Sites) (at : ℕ) (blocks behind : Open) (exchanges : List Exchange) (one : Came) (stp : Step) → blocks ≡ open_behind net sites 1 [] (came_in exchanges) → at ≡ 1 + length (came_in exchanges)
    → (let row : Open × Step = (behind, stp) in row ≡ row_of net sites at blocks one.0 one.1) → IsRow net sites exchanges one behind stp
row_is net sites at blocks behind exchanges one stp is number row =
    row ∙ ap (λ (o : Open). row_of net sites at o one.0 one.1) is ∙ ap (λ (n : ℕ). row_of net sites n (open_behind net sites 1 [] (came_in exchanges)) one.0 one.1) number

-- so is its answer
pub answer_is : (at : ℕ) (exchanges : List Exchange) (one : Given) (behind : Open) (stp : Step) (told : Option (List ℕ)) (own piece : List ℕ) → at ≡ 1 + length (came_in exchanges) → piece ≡ own ++ answer_of at one (behind, stp) told
    → piece ≡ own ++ answer_of (1 + length (came_in exchanges)) one (behind, stp) told
answer_is at exchanges one behind stp told own piece number is = is ∙ ap (λ (n : ℕ). own ++ answer_of n one (behind, stp) told) number

-- a session goes on
pub going_more : (net : Net) (sites : Sites) (begun : Books) (at : ℕ) (blocks behind : Open) (timed : Bool) (came : Incoming) (stp : Step) (told : Option (List ℕ)) (old new : Hand) (own piece : List ℕ) (shown : Shown) (coming now next rest before b1 b2 after : Option (List ℕ)) (t0 t1 t2 t3 : Option (List Turn)) (m0 m1 m2 : Moments)
    → SessionGoing net sites begun at blocks timed old coming now before b1 t0 t1 m0 m1 → Comes (line_bytes sites) now (Some came) next → b2 ≡ b1 → t2 ≡ took t1 (heard (Some came))
    → (let row : Open × Step = (behind, stp) in row ≡ row_of net sites at blocks old.book.state.changes (said_by came)) → StepPlayed net stp old new own → is_some told ≡ timed_behind timed stp → TicksIf m1 told m2
    → piece ≡ own ++ answer_of at (said_by came) (behind, stp) told → after ≡ gained b2 piece → t3 ≡ took t2 (said piece shown) → IsKept new.book.net shown.told new.book.state.changes (lost_of new.book.history) → rest ≡ next
    → shown.crashes ≡ new.book.crashes → LastsIn new → SessionGoing net sites begun (at + 1) behind (timed_behind timed stp) new coming rest before after t0 t3 m0 m2
going_more net sites begun at blocks behind timed came stp told old new own piece shown coming now next rest before b1 b2 after t0 t1 t2 t3 m0 m1 m2 so comes same turn row played told_is tick piece_is wrote answered kept input crashes_are last =
    let one : Exchange = record { known = old.book.state.changes; line = said_by came; told = told; piece = piece; shown = shown } in
    let lines = heard_in so.exchanges in
    let all = came_in so.exchanges in
    let number : at ≡ 1 + length all = omega (arith, so.count, came_count so.exchanges) in
    let is = row_is net sites at blocks behind so.exchanges (one.known, one.line) stp so.open_is number row in
    record {
      exchanges = so.exchanges ++ one ∷ [];
      count = omega (arith, so.count, length-append lines (one.line ∷ []), ap (λ (l : List Given). length l) (heard_more so.exchanges one));
      open_is = ap (λ (r : Open × Step). r.0) is ∙ sym (open_more net sites 1 [] all (one.known, one.line) (1 + length all) refl) ∙ ap (open_behind net sites 1 []) (sym (came_more so.exchanges one));
      timed_is = ap (λ (b : Bool). timed_behind b stp) so.timed_is ∙ ap (λ (r : Open × Step). timed_behind (timed_after net sites 1 [] false all) r.1) is
          ∙ sym (timed_more net sites 1 [] false all (one.known, one.line) (1 + length all) refl) ∙ ap (timed_after net sites 1 [] false) (sym (came_more so.exchanges one));
      gave = subst (λ (c : Option (List ℕ)). GaveSince sites coming c (heard_in (so.exchanges ++ one ∷ []))) (sym input)
          (subst (GaveSince sites coming next) (sym (heard_more so.exchanges one)) (gave_more sites coming now next lines came so.gave comes));
      said = session_more net sites begun so.exchanges came behind timed stp told old new own piece so.said.start shown before b2 after t0 t2 t3 m0 m1 m2 so.said.done so.said.shows
          (took_heard (session_turns net sites begun.state.changes so.said.start so.exchanges) came before b1 b2 t0 t1 t2 so.said.taken same turn)
          so.said.ticked is played so.timed_is told_is tick (answer_is at so.exchanges one.line behind stp told own piece number piece_is) wrote answered kept crashes_are last;
    }

-- the same, where answers say when they are given as another says it
pub going_as : (net : Net) (sites : Sites) (begun : Books) (at : ℕ) (blocks : Open) (timed on : Bool) (hand : Hand) (coming now before after : Option (List ℕ)) (t0 t1 : Option (List Turn)) (m0 m1 : Moments) → on ≡ timed
    → SessionGoing net sites begun at blocks timed hand coming now before after t0 t1 m0 m1 → SessionGoing net sites begun at blocks on hand coming now before after t0 t1 m0 m1
going_as net sites begun at blocks timed on hand coming now before after t0 t1 m0 m1 same so =
    subst (λ (b : Bool). SessionGoing net sites begun at blocks b hand coming now before after t0 t1 m0 m1) (sym same) so
