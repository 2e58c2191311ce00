-- The line of the book closes: its passes are those of the workers, and its history is theirs.
use Rattle.std.proofs.Common.{◌≡◌, ℕ, ◌+◌, ◌-◌, ◌<◌, ◌≤◌, List, [], ◌∷◌, ◌++◌, length, take, drop, get_or, map, All, IsOk, Ok, Err, Result, Some, refl, sym, ap, ◌∙◌, subst, arith, inl}
use Rattle.std.proofs.lemmas.List.{append-nil, drop_all, get_or-drop, get_or-map, length-drop, length-map, take_all}
use Rattle.atomic_table.specs.Seated.{TableId}
use Rattle.bt_frame.specs.declared.numbers.OutOfMemory.{OutOfMemory}
use Rattle.bt_net.specs.Network.{Net}
use mathlib.Core.List.{IsPrefix}
use Rattle.bt_shared.specs.Posted.{Posted}
use Rattle.bt_shared.specs.declared.object.TurnEntry as line
use Rattle.bt_shared.specs.Legal as line_legal
use Rattle.bt_shared.specs.Passes.{HasSeen, IsPass, Place, seen_at}
use Rattle.bt_journal.specs.declared.call.Call.{Call}
use Rattle.bt_journal.specs.declared.call.Change.{Change}
use Rattle.bt_journal.specs.declared.entry.Entry.{Entry}
use Rattle.bt_journal.specs.declared.reply.Reply.{Reply}
use Rattle.bt_journal.specs.Journal.{calls_of}
use Rattle.bt_history.specs.Book.{Books, book_steps, journal_entry, lock_entry}
use Rattle.bt_history.specs.Causes.{Follows}
use Rattle.bt_history.specs.Crash.{Last}
use Rattle.bt_history.specs.Machine.{Legal, state_after, state_from}
use Rattle.bt_script.specs.declared.script.Round.{Round}
use Rattle.bt_round.specs.declared.seats.TheConstants.{DESKS, SEATS}
use Rattle.bt_round.specs.declared.workers.Job.{Job}
use Rattle.bt_round.specs.declared.workers.Job.TheVariants.{Air, Plans, Desk}
use Rattle.bt_round.specs.AirLines.{AirState, opening_in}
use Rattle.bt_round.specs.Callers.{Calling, IsSameCaller, own_of}
use Rattle.bt_round.specs.Rounds.{BookRan}
use Rattle.bt_history.specs.Store.{RoseBy, lost_of}
use Rattle.std.specs.Option.{is_some}
use Rattle.bt_round.specs.Seats.{AllAt, AllDone, HaveSeen, IsDoneAt, IsOfBoard, IsOfPlace, IsOver, IsReady, air_in, publisher_in, reader_in, text_at}
use Rattle.bt_round.specs.Workers.{JobDone}
use Rattle.bt_history.proofs.Histories.{state_from-none}
use Rattle.bt_round.proofs.Rounds.{stored_entries}
use Rattle.bt_round.proofs.Seating.{centre_done, is_of_place, none_in_all, over_after, own_in_all, publisher_done, reader_done}

some_of : {X : Type 0} (xs : List X) → 0 < length xs → X
some_of [] some = absurd (omega (arith, some))
some_of (x ∷ xs) some = x

is_ok : (ended : Result Unit OutOfMemory) → IsOk ended → ended ≡ Ok tt
is_ok (Ok value) ok = refl
is_ok (Err fault) ok = cc

-- two lists with the same images have as many elements
pub as_many : {A B C : Type 0} (f : A → C) (g : B → C) (xs : List A) (ys : List B) → map f xs ≡ map g ys → length xs ≡ length ys
as_many f g xs ys same = sym (length-map xs f) ∙ ap length same ∙ length-map ys g

-- and at each place the same image
same_at : {A B C : Type 0} (f : A → C) (g : B → C) (xs : List A) (ys : List B) (place : ℕ) (d : A) (e : B) → map f xs ≡ map g ys → place < length ys
    → f (get_or xs place d) ≡ g (get_or ys place e)
same_at {A} {B} {C} f g xs ys place d e same within =
    sym (get_or-map f xs place d (f d) (omega (arith, within, as_many f g xs ys same))) ∙ ap (λ (l : List C). get_or l place (f d)) same ∙ get_or-map g ys place e (f d) within

of_board : (last : Posted) (job : Job AirState) (place : ℕ) → IsOfPlace place job → (place ≡ 1 → publisher_in job ≡ Some last)
    → (2 ≤ place → (reader : Posted) × (reader_in job ≡ Some reader) × IsPrefix reader.plans last.plans) → IsOfBoard last job
of_board last (Air lines centre) place at second behind = tt
of_board last (Plans count publisher) place at second behind = let is : Some publisher ≡ Some last = second at in cc
of_board last (Desk desk lines reader) place at second behind =
    let there = behind at in
    let same : there.0 ≡ reader = let is : Some reader ≡ Some there.0 = there.1 in cc in
    subst (λ (p : Posted). IsPrefix p.plans last.plans) same there.2

module _ {W : Type 0} (caller : W → Calling) (job : W → Job AirState) (ended : W → Result Unit OutOfMemory) (text : W → List ℕ) where
  -- the workers of a line are over, each at its place
  pub record AreOver (net : Net) (table : TableId) (start : Books) (round : Round) (posted : Posted) (air : AirState) (workers : List W) : Type 0 where
    pub seats : length workers ≡ SEATS
    pub over : AllAt (λ (place : ℕ) (w : W). IsOver net table start round posted air place (caller w) (job w) (ended w) (text w)) workers

  -- workers that were seated are over when each did its lines
  pub are_over : (net : Net) (table : TableId) (start : Books) (round : Round) (posted : Posted) (air : AirState) (olds news : List W) → length olds ≡ SEATS
      → AllAt (λ (place : ℕ) (w : W). IsReady table start round posted air place (caller w) (job w) (text w)) olds → length news ≡ length olds
      → ((i : ℕ) (d : W) → i < length olds → IsSameCaller (caller (get_or olds i d)) (caller (get_or news i d)))
      → ((i : ℕ) (d : W) → i < length olds → JobDone net (job (get_or olds i d)) (job (get_or news i d)) (ended (get_or news i d)) (own_of (caller (get_or olds i d))) (own_of (caller (get_or news i d)))
      (text (get_or olds i d)) (text (get_or news i d)))
      → AreOver net table start round posted air news
  are_over net table start round posted air olds news seats ready long same done = record {
    seats = long ∙ seats;
    over = λ i d lt.
        let within : i < length olds = omega (arith, lt, long) in
        over_after net table start round posted air i (caller (get_or olds i d)) (caller (get_or news i d)) (job (get_or olds i d)) (job (get_or news i d)) (ended (get_or news i d))
        (text (get_or olds i d)) (text (get_or news i d)) (ready i d within) (same i d within) (done i d within);
  }

  -- their passes are all passes of the line
  pub passes_are : {P : Type 0} (at : P → Place Books Call Reply) (net : Net) (table : TableId) (start : Books) (round : Round) (posted : Posted) (air : AirState) (workers : List W) (passes : List P)
      → AreOver net table start round posted air workers → map at passes ≡ map (λ (w : W). (caller w).place) workers → (place : ℕ) (d : P) → place < length passes → IsPass table start SEATS place (at (get_or passes place d))
  passes_are at net table start round posted air workers passes so same place d inside =
      let within : place < length workers = omega (arith, inside, as_many at (λ (w : W). (caller w).place) passes workers same) in
      let e = some_of workers (omega (arith, within)) in
      subst (IsPass table start SEATS place) (sym (same_at at (λ (w : W). (caller w).place) passes workers place d e same within)) (so.over place e within).pass

  -- each did what the round has at its place, with the entries of its caller in the line's history
  pub all_done : {P : Type 0} (at : P → Place Books Call Reply) (net : Net) (table : TableId) (start : Books) (round : Round) (posted last : Posted) (air over : AirState) (workers : List W) (passes : List P) (log : List (line.TurnEntry Call Reply))
      → AreOver net table start round posted air workers → map at passes ≡ map (λ (w : W). (caller w).place) workers → All (λ (w : W). IsOk (ended w)) workers → ((d : W) → air_in (job (get_or workers 0 d)) ≡ Some over)
      → All (λ (w : W). IsOfBoard last (job w)) workers → HaveSeen log (map at passes) → AllDone net round posted last air over (map journal_entry log) (map text workers)
  all_done at net table start round posted last air over workers passes log so same well first boards seen =
      let count : length passes ≡ length workers = as_many at (λ (w : W). (caller w).place) passes workers same in
      let entries = map journal_entry log in
      let e : W = some_of workers (omega (arith, so.seats)) in
      let done : (place : ℕ) → place < SEATS → IsDoneAt net round posted air place (job (get_or workers place e)) (Ok tt) (calls_of entries place) (text_at place (map text workers)) = λ place small.
      let within : place < length workers = omega (arith, small, so.seats) in
      let w : W = get_or workers place e in
      let one = so.over place e within in
      let q : Place Books Call Reply = (caller w).place in
      let place_is : get_or (map at passes) place q ≡ q = ap (λ (l : List (Place Books Call Reply)). get_or l place q) same ∙ get_or-map (λ (w : W). (caller w).place) workers place e q within in
      let own : own_of (caller w) ≡ calls_of entries place = own_in_all log place (caller w) one.pass.number_is
      (subst (λ (p : Place Books Call Reply). HasSeen log place (seen_at p)) place_is (seen.each place q (omega (arith, within, count, length-map passes at)))) in
      subst (λ (t : List ℕ). IsDoneAt net round posted air place (job w) (Ok tt) (calls_of entries place) t) (sym (get_or-map text workers place e [] within))
      (subst (λ (l : List Entry). IsDoneAt net round posted air place (job w) (Ok tt) l (text w)) own
      (subst (λ (r : Result Unit OutOfMemory). IsDoneAt net round posted air place (job w) r (own_of (caller w)) (text w)) (is_ok (ended w) (well place e within)) one.done)) in
      record {
        first = (job (get_or workers 0 e), first e, done 0 (omega arith));
        each = λ place small. (job (get_or workers place e), done place small, boards place e (omega (arith, small, so.seats)));
        strangers = λ caller past. none_in_all log caller (seen.strangers caller (omega (arith, past, so.seats, count, length-map passes at)));
      }

  -- each worker has the job of its place
  pub placed : (net : Net) (table : TableId) (start : Books) (round : Round) (posted : Posted) (air : AirState) (workers : List W)
      → AreOver net table start round posted air workers → AllAt (λ (place : ℕ) (w : W). IsOfPlace place (job w)) workers
  placed net table start round posted air workers so place e within =
      let w : W = get_or workers place e in
      is_of_place net round posted air place (job w) (ended w) (own_of (caller w)) (text w) (so.over place e within).done

  -- the publisher that the planner leaves is of the board
  pub publisher_of : (net : Net) (table : TableId) (start : Books) (round : Round) (posted last : Posted) (air : AirState) (workers : List W)
      → AreOver net table start round posted air workers → ((d : W) → publisher_in (job (get_or workers 1 d)) ≡ Some last) → last.board ≡ posted.board
  publisher_of net table start round posted last air workers so second =
      let e : W = some_of workers (omega (arith, so.seats)) in
      let w : W = get_or workers 1 e in
      publisher_done net round posted last air 1 (job w) (ended w) (own_of (caller w)) (text w) (second e) (so.over 1 e (omega (arith, so.seats))).done

  -- the reader at a place is that of the worker two places behind
  reader_at : (workers : List W) (readers : List Posted) (place : ℕ) (d : Posted) (e : W) → length workers ≡ SEATS
      → map (λ (reader : Posted). Some reader) readers ≡ map (λ (w : W). reader_in (job w)) (drop 2 workers) → place + 2 < SEATS
      → Some (get_or readers place d) ≡ reader_in (job (get_or workers (2 + place) e))
  reader_at workers readers place d e seats same small =
      same_at (λ (reader : Posted). Some reader) (λ (w : W). reader_in (job w)) readers (drop 2 workers) place d e same (omega (arith, length-drop 2 workers, seats, small))
      ∙ ap (λ (w : W). reader_in (job w)) (get_or-drop 2 workers place e)

  -- there are as many readers as desks
  pub count_readers : (workers : List W) (readers : List Posted) → length workers ≡ SEATS
      → map (λ (reader : Posted). Some reader) readers ≡ map (λ (w : W). reader_in (job w)) (drop 2 workers) → length readers ≡ DESKS
  count_readers workers readers seats same =
      omega (arith, as_many (λ (reader : Posted). Some reader) (λ (w : W). reader_in (job w)) readers (drop 2 workers) same, length-drop 2 workers, seats)

  -- the readers that the desks leave are of the board
  pub readers_of : (net : Net) (table : TableId) (start : Books) (round : Round) (posted : Posted) (air : AirState) (workers : List W) (readers : List Posted)
      → AreOver net table start round posted air workers → map (λ (reader : Posted). Some reader) readers ≡ map (λ (w : W). reader_in (job w)) (drop 2 workers)
      → All (λ (reader : Posted). reader.board ≡ posted.board) readers
  readers_of net table start round posted air workers readers so same place d within =
      let e : W = some_of workers (omega (arith, so.seats)) in
      let w : W = get_or workers (2 + place) e in
      let small : place + 2 < SEATS = omega (arith, within, count_readers workers readers so.seats same) in
      reader_done net round posted (get_or readers place d) air (2 + place) (job w) (ended w) (own_of (caller w)) (text w) (sym (reader_at workers readers place d e so.seats same small))
      (so.over (2 + place) e (omega (arith, so.seats, small))).done

  -- each job has what the board has, where the publisher has met the readers
  pub boards_are : (workers : List W) (last : Posted) (readers : List Posted) → length workers ≡ SEATS → AllAt (λ (place : ℕ) (w : W). IsOfPlace place (job w)) workers
      → ((d : W) → publisher_in (job (get_or workers 1 d)) ≡ Some last) → map (λ (reader : Posted). Some reader) readers ≡ map (λ (w : W). reader_in (job w)) (drop 2 workers)
      → All (λ (reader : Posted). IsPrefix reader.plans last.plans) readers → All (λ (w : W). IsOfBoard last (job w)) workers
  boards_are workers last readers seats places second same begins place e within =
      of_board last (job (get_or workers place e)) place (places place e within)
      (λ one. subst (λ (n : ℕ). publisher_in (job (get_or workers n e)) ≡ Some last) (sym one) (second e))
      (λ behind.
      let desk : ℕ = place - 2 in
      let small : desk + 2 < SEATS = omega (arith, behind, within, seats) in
      let at : 2 + desk ≡ place = omega (arith, behind) in
      let reader : Posted = get_or readers desk last in (
        reader,
        sym (reader_at workers readers desk last e seats same small ∙ ap (λ (n : ℕ). reader_in (job (get_or workers n e))) at),
        begins desk last (omega (arith, small, count_readers workers readers seats same)),
      ))

  -- the world of the centre's worker opens as it did
  pub still_opening : (net : Net) (table : TableId) (start : Books) (round : Round) (posted : Posted) (air over : AirState) (workers : List W)
      → AreOver net table start round posted air workers → ((d : W) → air_in (job (get_or workers 0 d)) ≡ Some over) → opening_in over ≡ opening_in air
  still_opening net table start round posted air over workers so first =
      let e : W = some_of workers (omega (arith, so.seats)) in
      let w : W = get_or workers 0 e in
      (centre_done net round posted air over (job w) (ended w) (own_of (caller w)) (text w) (first e) (so.over 0 e (omega (arith, so.seats))).done).0

-- what each pass has seen of a history, as the places of the passes tell it
pub seen_through : {P : Type 0} (passes : List P) (at : P → Place Books Call Reply) (log : List (line.TurnEntry Call Reply))
    → ((i : ℕ) (d : P) → i < length passes → HasSeen log i (seen_at (at (get_or passes i d)))) → ((n : ℕ) → length passes ≤ n → line_legal.calls_by n log ≡ []) → HaveSeen log (map at passes)
seen_through {P} passes at log seen strangers = record {
  each = λ i q lt.
      let within : i < length passes = omega (arith, lt, length-map passes at) in
      let d : P = some_of passes (omega (arith, within)) in
      subst (λ (p : Place Books Call Reply). HasSeen log i (seen_at p)) (sym (get_or-map at passes i d q within)) (seen i d within);
  strangers = λ n past. strangers n (omega (arith, past, length-map passes at));
}

-- what is written back into a vector is all of it
pub written_back : {X : Type 0} (count : ℕ) (news olds : List X) → length news ≡ length olds → count ≡ length olds → take count (news ++ drop (length news) olds) ≡ news
written_back {X} count news olds long counted =
    ap (λ (l : List X). take count (news ++ l)) (drop_all (length news) olds (omega (arith, long))) ∙ ap (take count) (append-nil news) ∙ take_all count news (omega (arith, long, counted))

-- the laws of the calls of a line
pub record Laws : Type 0 where
  pub legal : (start end : Books) (opening : List Change) (history : List Entry) (log : List (line.TurnEntry Call Reply)) → Legal start.net opening history
      → start.state ≡ state_after opening history → line_legal.Legal book_steps start log end → Legal start.net opening (history ++ map journal_entry log)
  pub state : (start end : Books) (opening : List Change) (history : List Entry) (log : List (line.TurnEntry Call Reply)) → start.state ≡ state_after opening history
      → line_legal.Legal book_steps start log end → end.state ≡ state_after opening (history ++ map journal_entry log)
  pub from : (start end : Books) (log : List (line.TurnEntry Call Reply)) → line_legal.Legal book_steps start log end → end.state ≡ state_from start.state (map journal_entry log)
  pub net : (start end : Books) (log : List (line.TurnEntry Call Reply)) → line_legal.Legal book_steps start log end → end.net ≡ start.net
  pub rose : (start end : Books) (log : List (line.TurnEntry Call Reply)) → line_legal.Legal book_steps start log end → RoseBy (length (lost_of (map journal_entry log))) start.faults end.faults
  pub follow : (start end : Books) (log : List (line.TurnEntry Call Reply)) → Follows start.net start.state.changes → line_legal.Legal book_steps start log end → Follows start.net end.state.changes
  pub tells : (start end : Books) (log : List (line.TurnEntry Call Reply)) → line_legal.Legal book_steps start log end → is_some end.told ≡ is_some start.told
  pub last : (start end : Books) (log : List (line.TurnEntry Call Reply)) → Last start.net start.state.changes start.crashes start.crashes → line_legal.Legal book_steps start log end
      → Last start.net start.state.changes start.crashes end.crashes

-- nothing was asked of a book
pub ran_nothing : (book : Books) → Follows book.net book.state.changes → BookRan book book
ran_nothing book follow = record {
  net = refl;
  entries = [];
  kept = sym (append-nil book.history);
  from = sym (state_from-none book.state);
  legal = λ opening was reached. was;
  reached = λ opening reached. reached;
  follows = follow;
  rose = inl (omega arith);
  tells = refl;
  last = λ now. now;
}

-- a book comes back from its line with a history that goes on by the line's
pub comes_back : Laws → (start end : Books) (log : List (line.TurnEntry Call Reply)) → Follows start.net start.state.changes
    → line_legal.Legal book_steps start log end → map lock_entry end.history ≡ map lock_entry start.history ++ log → BookRan start end
comes_back laws start end log follow legal stored =
    let kept : end.history ≡ start.history ++ map journal_entry log = stored_entries start.history end.history log stored in
    record {
      net = laws.net start end log legal;
      entries = map journal_entry log;
      kept = kept;
      from = laws.from start end log legal;
      legal = λ opening was reached.
          subst (λ (h : List Entry). Legal start.net opening h) (sym kept) (laws.legal start end opening start.history log was reached legal);
      reached = λ opening reached. laws.state start end opening start.history log reached legal ∙ ap (state_after opening) (sym kept);
      follows = laws.follow start end log follow legal;
      rose = laws.rose start end log legal;
      tells = laws.tells start end log legal;
      last = λ now. laws.last start end log now legal;
    }
