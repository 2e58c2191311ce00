-- The workers of a round at their places: seated before their lines, and over after them.
use Rattle.std.proofs.Common.{◌≡◌, ℕ, ◌+◌, ◌<◌, ◌≤◌, List, [], ◌∷◌, ◌++◌, length, get_or, set, drop, map, All, Ok, OnOk, Some, Result, sym, ap, ◌∙◌, subst, ⊎_elim, append_assoc, arith, length-append}
use Rattle.std.proofs.lemmas.Bool.{cases_eq}
use Rattle.std.proofs.lemmas.List.{append-nil, drop_more, map-append, get_or_append_left, get_or_push, get_or-set_other, get_or-set_same, length-drop}
use Rattle.atomic_table.specs.Seated.{TableId}
use Rattle.bt_frame.specs.declared.numbers.OutOfMemory.{OutOfMemory}
use Rattle.bt_net.specs.Network.{Net}
use mathlib.Core.List.{IsPrefix}
use Rattle.bt_demand.specs.declared.plan.Plan.{Plan}
use Rattle.bt_shared.specs.Plans.{next_edition}
use Rattle.bt_shared.specs.Posted.{Posted}
use Rattle.bt_shared.specs.declared.object.TurnEntry as line
use Rattle.bt_shared.specs.Legal.{calls_by}
use Rattle.bt_shared.specs.Passes.{HasSeen, IsPass, IsSamePass, Place, seen_at}
use Rattle.bt_journal.specs.declared.call.Call.{Call}
use Rattle.bt_journal.specs.declared.call.Change.{Change}
use Rattle.bt_journal.specs.declared.entry.Entry.{Entry}
use Rattle.bt_journal.specs.declared.reply.Reply.{Reply}
use Rattle.bt_journal.specs.Journal.{calls_of, changes_of}
use Rattle.bt_history.specs.Book.{Books, journal_entry}
use Rattle.bt_history.specs.Changes.{newest}
use Rattle.bt_script.specs.declared.script.AirLine.{AirLine}
use Rattle.bt_script.specs.declared.script.DeskLine.{DeskLine}
use Rattle.bt_script.specs.declared.script.Round.{Round}
use Rattle.bt_script.specs.Named.{IsAirLineFor, IsLineFor, IsRoundFor}
use Rattle.bt_round.specs.declared.seats.TheConstants.{SEATS}
use Rattle.bt_round.specs.declared.workers.Job.{Job}
use Rattle.bt_round.specs.declared.workers.Job.TheVariants.{Air, Plans, Desk}
use Rattle.bt_round.specs.AirLines.{AirState, PlaysAirLines, opening_in}
use Rattle.bt_round.specs.Callers.{Calling, IsSameCaller, caller_number, own_in, own_of}
use Rattle.bt_round.specs.Done.{DeskDone, PlannerDone}
use Rattle.bt_round.specs.Seats.{AllAt, IsDoneAt, IsJobAt, IsOfBoard, IsOfPlace, IsOver, IsReady, air_in, lines_of, publisher_in, reader_in}
use Rattle.bt_round.specs.Worker.{Asks}
use Rattle.bt_round.specs.Workers.{CanDo, JobDone}
use Rattle.bt_round.specs.Planned.{HasPosted}
use Rattle.bt_round.proofs.Asking.{calls_in_log}
use Rattle.bt_round.proofs.DeskSeats.{lines_name}

-- one element more at its place
pub all_at_push : {X : Type 0} (xs : List X) (x : X) (P : ℕ → X → Type 0) → AllAt P xs → P (length xs) x → AllAt P (xs ++ x ∷ [])
all_at_push {X} xs x P all one i d within = ⊎_elim
    (λ (same : i ≡ length xs). subst (λ (y : X). P i y) (sym (get_or_push xs x d i (sym same))) (subst (λ (n : ℕ). P n x) (sym same) one))
    (λ (differ : i ≡ length xs → ⊥).
    let below : i < length xs = omega (arith, within, length-append xs (x ∷ []), differ) in
    subst (λ (y : X). P i y) (sym (get_or_append_left xs (x ∷ []) d i below)) (all i d below))
    (cases_eq i (length xs))

-- the first at its place
pub only_one : {X : Type 0} (xs : List X) (x : X) → xs ≡ x ∷ [] → (P : ℕ → X → Type 0) → P 0 x → AllAt P xs
only_one {X} xs x is P one = subst (AllAt P) (sym is) (all_at_push [] x P (λ i d within. absurd (omega (arith, within))) one)

-- one more had its turn, and the others are as they were
pub turned : {W : Type 0} (R : W → W → Type 0) (olds news : List W) (index : ℕ) (new : W) → index < length news → ((i : ℕ) (d : W) → i < index → R (get_or olds i d) (get_or news i d))
    → ((d : W) → R (get_or olds index d) new) → (i : ℕ) (d : W) → i < index + 1 → R (get_or olds i d) (get_or (set news index new) i d)
turned {W} R olds news index new within done one i d less = ⊎_elim
    (λ (same : i ≡ index). subst (λ (n : ℕ). R (get_or olds n d) (get_or (set news index new) n d)) (sym same) (subst (λ (w : W). R (get_or olds index d) w) (sym (get_or-set_same news index new d within)) (one d)))
    (λ (differ : i ≡ index → ⊥). subst (λ (w : W). R (get_or olds i d) w) (sym (get_or-set_other news index i new d differ)) (done i d (omega (arith, less, differ))))
    (cases_eq i index)

-- the next of a list is taken from what is left of it
pub record IsNext {X : Type 0} (all : List X) (place : ℕ) (next : X) (left : List X) : Type 0 where
  pub within : place < length all
  pub next_is : (d : X) → get_or all place d ≡ next
  pub left_is : left ≡ drop (place + 1) all

pub next_of : {X : Type 0} (all : List X) (place : ℕ) (next : X) (left : List X) → drop place all ≡ next ∷ left → IsNext all place next left
next_of {X} all place next left is =
    let within : place < length all = omega (arith, length-drop place all, ap length is) in
    record {
      within = within;
      next_is = λ d. let e : get_or all place d ∷ drop (place + 1) all ≡ next ∷ left = sym (drop_more all place d within) ∙ is in cc;
      left_is = let e : get_or all place next ∷ drop (place + 1) all ≡ next ∷ left = sym (drop_more all place next within) ∙ is in cc;
    }

-- the next pass of a line is taken from those that are left
pub record IsTaken (table : TableId) (start : Books) (place number : ℕ) (pass : Place Books Call Reply) : Type 0 where
  pub is_pass : IsPass table start SEATS place pass
  pub unseen : seen_at pass ≡ []
  pub number_is : number ≡ place
  pub small : number < SEATS

pub taken : {P : Type 0} (table : TableId) (start : Books) (at : P → Place Books Call Reply) (all : List P) (place number : ℕ) (next : P) (left : List P) → length all ≡ SEATS
    → AllAt (λ (i : ℕ) (p : P). IsPass table start SEATS i (at p)) all → All (λ (p : P). seen_at (at p) ≡ []) all → IsNext all place next left → (at next).me.0.number ≡ number
    → IsTaken table start place number (at next)
taken {P} table start at all place number next left seats passes unseen is numbered =
    let pass : IsPass table start SEATS place (at next) = subst (λ (p : P). IsPass table start SEATS place (at p)) (is.next_is next) (passes place next is.within) in
    let same : number ≡ place = sym numbered ∙ pass.number_is in
    record {
      is_pass = pass;
      unseen = subst (λ (p : P). seen_at (at p) ≡ []) (is.next_is next) (unseen place next is.within);
      number_is = same;
      small = omega (arith, same, is.within, seats);
    }

-- a worker that was seated is ready
pub seated : (table : TableId) (start : Books) (round : Round) (posted : Posted) (air : AirState) (place : ℕ) (pass : Place Books Call Reply) (caller : Calling) (job : Job AirState) (text : List ℕ)
    → IsPass table start SEATS place pass → seen_at pass ≡ [] → caller ≡ record { table = table; start = start; place = pass } → IsJobAt round posted air place job → text ≡ []
    → IsReady table start round posted air place caller job text
seated table start round posted air place pass caller job text is_pass unseen is job_is silent = record {
  table_is = ap (λ (c : Calling). c.table) is;
  start_is = ap (λ (c : Calling). c.start) is;
  pass = subst (IsPass table start SEATS place) (sym (ap (λ (c : Calling). c.place) is)) is_pass;
  unseen = ap (λ (c : Calling). seen_at c.place) is ∙ unseen;
  job_is = job_is;
  silent = silent;
}

-- the caller at a place can do the job of that place
can_do : (net : Net) (round : Round) (posted : Posted) (air : AirState) (place : ℕ) (caller : Calling) (job : Job AirState) → caller_number caller ≡ place → (opening_in air).net ≡ net → IsRoundFor net round
    → HasPosted caller posted.plans → IsJobAt round posted air place job → CanDo net caller job
can_do net round posted air place caller (Air lines centre) at same named has (zero, lines_are, centre_is) =
    (at ∙ zero, subst (All (IsAirLineFor net)) (sym lines_are) named.air, ap (λ (a : AirState). (opening_in a).net) centre_is ∙ same)
can_do net round posted air place caller (Plans count publisher) at same named has (one, count_is, publisher_is) =
    (at ∙ one, subst (λ (p : Posted). HasPosted caller p.plans) (sym publisher_is) has)
can_do net round posted air place caller (Desk desk lines reader) at same named has (next, from_one, lines_are, reader_is) =
    (at ∙ next, subst (All (IsLineFor net)) (sym lines_are) (lines_name net desk round.desks named.desks))

-- a caller that has made no call has posted what was installed before
begins_posted : (start : Books) (plans : List Plan) (caller : Calling) → caller.start ≡ start → seen_at caller.place ≡ []
    → next_edition plans ≤ (newest start.state.changes).edition.0 + 1 → HasPosted caller plans
begins_posted start plans caller same unseen last =
    let none : own_of caller ≡ [] = ap (λ (l : List (line.TurnEntry Call Reply)). own_in (caller_number caller) l) unseen in
    let changes : caller.start.state.changes ++ changes_of (own_of caller) ≡ start.state.changes =
    ap (λ (e : List Entry). caller.start.state.changes ++ changes_of e) none ∙ append-nil caller.start.state.changes ∙ ap (λ (b : Books). b.state.changes) same in
    subst (λ (c : List Change). next_edition plans ≤ (newest c).edition.0 + 1) (sym changes) last

-- a worker that is seated can work
pub ready_can : (net : Net) (table : TableId) (start : Books) (round : Round) (posted : Posted) (air : AirState) (place : ℕ) (caller : Calling) (job : Job AirState) (text : List ℕ)
    → start.net ≡ net → (opening_in air).net ≡ net → IsRoundFor net round → next_edition posted.plans ≤ (newest start.state.changes).edition.0 + 1
    → IsReady table start round posted air place caller job text → (caller.start.net ≡ net) × CanDo net caller job
ready_can net table start round posted air place caller job text same airs named last so =
    (ap (λ (b : Books). b.net) so.start_is ∙ same, can_do net round posted air place caller job so.pass.number_is airs named (begins_posted start posted.plans caller so.start_is so.unseen last) so.job_is)

-- the same pass is the pass of the same place
pub still_pass : (table : TableId) (start : Books) (passes place : ℕ) (old new : Place Books Call Reply) → IsPass table start passes place old → IsSamePass old new
    → IsPass table start passes place new
still_pass table start passes place old new so same = record {
  of_line = record { table_is = same.table_is ∙ so.of_line.table_is; start_is = same.start_is ∙ so.of_line.start_is };
  number_is = same.number_is ∙ so.number_is;
  leads = λ zero. (same.count_is ∙ (so.leads zero).0, same.kept_is ∙ (so.leads zero).1);
}

-- what was done is what the round has at that place
done_at : (net : Net) (round : Round) (posted : Posted) (air : AirState) (place : ℕ) (job after : Job AirState) (ended : Result Unit OutOfMemory) (own : List Entry) (written : List ℕ)
    → IsJobAt round posted air place job → JobDone net job after ended [] own [] written → IsDoneAt net round posted air place after ended own written
done_at net round posted air place (Air lines centre) after ended own written (zero, lines_are, centre_is) (over, after_is, opening, played) =
    subst (λ (j : Job AirState). IsDoneAt net round posted air place j ended own written) (sym after_is) (
      zero,
      opening ∙ ap opening_in centre_is,
      subst (λ (a : AirState). OnOk ended (Asks (PlaysAirLines net a round.air) over [] own [] written)) centre_is
          (subst (λ (l : List AirLine). OnOk ended (Asks (PlaysAirLines net centre l) over [] own [] written)) lines_are played),
    )
done_at net round posted air place (Plans count publisher) after ended own written (one, count_is, publisher_is) (over, after_is, board, planned) =
    subst (λ (j : Job AirState). IsDoneAt net round posted air place j ended own written) (sym after_is) (
      one,
      board ∙ ap (λ (p : Posted). p.board) publisher_is,
      subst (λ (p : Posted). OnOk ended (PlannerDone net round.plans p.plans over.plans [] own [] written)) publisher_is
          (subst (λ (n : ℕ). OnOk ended (PlannerDone net n publisher.plans over.plans [] own [] written)) count_is planned),
    )
done_at net round posted air place (Desk desk lines reader) after ended own written (next, from_one, lines_are, reader_is) (over, after_is, board, done) =
    subst (λ (j : Job AirState). IsDoneAt net round posted air place j ended own written) (sym after_is) (
      next,
      from_one,
      board ∙ ap (λ (p : Posted). p.board) reader_is,
      subst (λ (p : Posted). OnOk ended (DeskDone net desk (lines_of desk round.desks) p.plans over.plans [] own [] written)) reader_is
          (subst (λ (l : List DeskLine). OnOk ended (DeskDone net desk l reader.plans over.plans [] own [] written)) lines_are done),
    )

-- a worker that was seated is over once it did its lines
pub over_after : (net : Net) (table : TableId) (start : Books) (round : Round) (posted : Posted) (air : AirState) (place : ℕ) (old new : Calling) (job after : Job AirState)
    (ended : Result Unit OutOfMemory) (text written : List ℕ) → IsReady table start round posted air place old job text → IsSameCaller old new
    → JobDone net job after ended (own_of old) (own_of new) text written → IsOver net table start round posted air place new after ended written
over_after net table start round posted air place old new job after ended text written so same done =
    let none : own_of old ≡ [] = ap (λ (l : List (line.TurnEntry Call Reply)). own_in (caller_number old) l) so.unseen in
    let begun : JobDone net job after ended [] (own_of new) text written = subst (λ (b : List Entry). JobDone net job after ended b (own_of new) text written) none done in
    record {
      pass = still_pass table start SEATS place old.place new.place so.pass same.place;
      done = done_at net round posted air place job after ended (own_of new) written so.job_is
          (subst (λ (t : List ℕ). JobDone net job after ended [] (own_of new) t written) so.silent begun);
    }

-- at place 0 the centre's worker played its lines
pub centre_done : (net : Net) (round : Round) (posted : Posted) (air over : AirState) (job : Job AirState) (ended : Result Unit OutOfMemory) (own : List Entry) (text : List ℕ) → air_in job ≡ Some over
    → IsDoneAt net round posted air 0 job ended own text
    → (opening_in over ≡ opening_in air) × OnOk ended (Asks (PlaysAirLines net air round.air) over [] own [] text)
centre_done net round posted air over (Air lines centre) ended own text is (zero, opening, played) =
    let same : centre ≡ over = cc in
    (sym (ap opening_in same) ∙ opening, subst (λ (a : AirState). OnOk ended (Asks (PlaysAirLines net air round.air) a [] own [] text)) same played)
centre_done net round posted air over (Plans count publisher) ended own text is done = absurd (omega (arith, done.0))
centre_done net round posted air over (Desk desk lines reader) ended own text is done = absurd (omega (arith, done.0))

-- the job at a place is that of its worker
pub is_of_place : (net : Net) (round : Round) (posted : Posted) (air : AirState) (place : ℕ) (job : Job AirState) (ended : Result Unit OutOfMemory) (own : List Entry) (text : List ℕ)
    → IsDoneAt net round posted air place job ended own text → IsOfPlace place job
is_of_place net round posted air place (Air lines centre) ended own text done = done.0
is_of_place net round posted air place (Plans count publisher) ended own text done = done.0
is_of_place net round posted air place (Desk desk lines reader) ended own text done = omega (arith, done.0, done.1)

-- at place 1 the planner planned
pub planner_done : (net : Net) (round : Round) (posted last : Posted) (air : AirState) (job : Job AirState) (own : List Entry) (text : List ℕ)
    → IsDoneAt net round posted air 1 job (Ok tt) own text → IsOfBoard last job → PlannerDone net round.plans posted.plans last.plans [] own [] text
planner_done net round posted last air (Air lines centre) own text done of_board = absurd (omega (arith, done.0))
planner_done net round posted last air (Plans count publisher) own text (one, board, planned) of_board =
    subst (λ (p : Posted). PlannerDone net round.plans posted.plans p.plans [] own [] text) of_board planned
planner_done net round posted last air (Desk desk lines reader) own text done of_board = absurd (omega (arith, done.0, done.1))

-- the publisher that the planner leaves is of the same board
pub publisher_done : (net : Net) (round : Round) (posted last : Posted) (air : AirState) (place : ℕ) (job : Job AirState) (ended : Result Unit OutOfMemory) (own : List Entry) (text : List ℕ)
    → publisher_in job ≡ Some last → IsDoneAt net round posted air place job ended own text → last.board ≡ posted.board
publisher_done net round posted last air place (Air lines centre) ended own text is done = cc
publisher_done net round posted last air place (Plans count publisher) ended own text is done =
    let same : publisher ≡ last = cc in ap (λ (p : Posted). p.board) (sym same) ∙ done.1
publisher_done net round posted last air place (Desk desk lines reader) ended own text is done = cc

-- a desk did its lines, and what its reader has seen was posted
pub record DeskIsDone (net : Net) (round : Round) (posted last : Posted) (number : ℕ) (own : List Entry) (text : List ℕ) : Type 0 where
  pub over : Posted
  pub begins : IsPrefix over.plans last.plans
  pub lines : DeskDone net number (lines_of number round.desks) posted.plans over.plans [] own [] text

-- and at each other place a desk did its lines
pub desk_done : (net : Net) (round : Round) (posted last : Posted) (air : AirState) (number : ℕ) (job : Job AirState) (own : List Entry) (text : List ℕ) → 1 ≤ number
    → IsDoneAt net round posted air (number + 1) job (Ok tt) own text → IsOfBoard last job → DeskIsDone net round posted last number own text
desk_done net round posted last air number (Air lines centre) own text from_one done of_board = absurd (omega (arith, done.0))
desk_done net round posted last air number (Plans count publisher) own text from_one done of_board = absurd (omega (arith, from_one, done.0))
desk_done net round posted last air number (Desk desk lines reader) own text from_one (next, one, board, done) of_board =
    let same : desk ≡ number = omega (arith, next) in
    record {
      over = reader;
      begins = of_board;
      lines = subst (λ (n : ℕ). DeskDone net n (lines_of n round.desks) posted.plans reader.plans [] own [] text) same done;
    }

-- a reader that a desk leaves is of the same board
pub reader_done : (net : Net) (round : Round) (posted reader : Posted) (air : AirState) (place : ℕ) (job : Job AirState) (ended : Result Unit OutOfMemory) (own : List Entry) (text : List ℕ)
    → reader_in job ≡ Some reader → IsDoneAt net round posted air place job ended own text → reader.board ≡ posted.board
reader_done net round posted reader air place (Air lines centre) ended own text is done = cc
reader_done net round posted reader air place (Plans count publisher) ended own text is done = cc
reader_done net round posted reader air place (Desk desk lines over) ended own text is done =
    let same : over ≡ reader = cc in ap (λ (p : Posted). p.board) (sym same) ∙ done.2

-- each caller has all of its entries
pub own_in_all : (log : List (line.TurnEntry Call Reply)) (place : ℕ) (caller : Calling) → caller_number caller ≡ place → HasSeen log place (seen_at caller.place)
    → own_of caller ≡ calls_of (map journal_entry log) place
own_in_all log place caller at seen =
    ap (λ (n : ℕ). own_in n (seen_at caller.place)) at ∙ ap (map journal_entry) (sym seen.own) ∙ sym (calls_in_log log place)

-- who has no call in a line's history has none among its entries
pub none_in_all : (log : List (line.TurnEntry Call Reply)) (number : ℕ) → calls_by number log ≡ [] → calls_of (map journal_entry log) number ≡ []
none_in_all log number none = calls_in_log log number ∙ ap (map journal_entry) none

-- a worker behind the second is a desk
pub behind_is_desk : (job : Job AirState) (place : ℕ) → 1 < place → IsOfPlace place job → IsOfPlace 2 job
behind_is_desk (Air lines centre) place behind at = absurd (omega (arith, behind, at))
behind_is_desk (Plans count publisher) place behind at = absurd (omega (arith, behind, at))
behind_is_desk (Desk desk lines reader) place behind at = omega arith

-- the next of a list is one of those that were made of the list
pub moved_on : {A B C : Type 0} (f : A → C) (g : B → C) (made : List A) (one : A) (next : B) (left : List B) (all : List C) → f one ≡ g next
    → map f made ++ map g (next ∷ left) ≡ all → map f (made ++ one ∷ []) ++ map g left ≡ all
moved_on {A} {B} {C} f g made one next left all same is =
    ap (λ (l : List C). l ++ map g left) (map-append f made (one ∷ []))
    ∙ append_assoc (map f made) (f one ∷ []) (map g left)
    ∙ ap (λ (x : C). map f made ++ x ∷ map g left) same
    ∙ is

-- what was made of the first two of a list, with the others
pub moved_two : {A B C : Type 0} (f : A → C) (g : B → C) (one two : A) (first second : B) (all : List B) → 1 < length all → first ≡ get_or all 0 first → second ≡ get_or all 1 second
    → f one ≡ g first → f two ≡ g second → map f (one ∷ two ∷ []) ++ map g (drop 2 all) ≡ map g all
moved_two {A} {B} {C} f g one two first second all long first_is second_is begins goes_on =
    let parts : first ∷ second ∷ drop 2 all ≡ all =
    ap (λ (x : B). x ∷ second ∷ drop 2 all) first_is
    ∙ ap (λ (x : B). get_or all 0 first ∷ x ∷ drop 2 all) second_is
    ∙ ap (λ (l : List B). get_or all 0 first ∷ l) (sym (drop_more all 1 second long))
    ∙ sym (drop_more all 0 first (omega (arith, long))) in
    ap (λ (x : C). x ∷ f two ∷ map g (drop 2 all)) begins ∙ ap (λ (x : C). g first ∷ x ∷ map g (drop 2 all)) goes_on ∙ ap (map g) parts
