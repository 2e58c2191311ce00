-- For bodies alone: the workers of a round at their places, before their lines and after them.
use Rattle.std.specs.Prelude.{◌≡◌, ℕ, ◌+◌, ◌<◌, ◌≤◌, ◌==◌, ◌++◌, if◌then◌else◌, List, [], ◌∷◌, length, map, OnOk, Ok, Option, Some, None, Result, slice_index_or}
use Rattle.std.specs.List.{flat_map}
use Rattle.atomic_table.specs.Seated.{TableId}
use Rattle.bt_frame.specs.declared.numbers.OutOfMemory.{OutOfMemory}
use Rattle.bt_net.specs.Network.{Net}
use mathlib.Core.List.{IsPrefix}
use Rattle.bt_shared.specs.Posted.{Posted}
use Rattle.bt_shared.specs.declared.object.TurnEntry as line
use Rattle.bt_shared.specs.Legal.{calls_by}
use Rattle.bt_shared.specs.Passes.{HasSeen, IsPass, Place, seen_at}
use Rattle.bt_journal.specs.declared.call.Call.{Call}
use Rattle.bt_journal.specs.declared.entry.Entry.{Entry}
use Rattle.bt_journal.specs.declared.reply.Reply.{Reply}
use Rattle.bt_journal.specs.Journal.{calls_of}
use Rattle.bt_history.specs.Book.{Books, journal_entry}
use Rattle.bt_script.specs.declared.script.DeskLine.{DeskLine}
use Rattle.bt_script.specs.declared.script.Round.{Round}
use Rattle.bt_round.specs.declared.seats.TheConstants.{SEATS}
use Rattle.bt_round.specs.declared.workers.Job.{Job}
use Rattle.bt_round.specs.declared.workers.Job.TheVariants.{Air, Plans, Desk}
use Rattle.bt_round.specs.AirLines.{AirState, PlaysAirLines, opening_in}
use Rattle.bt_round.specs.Callers.{Calling, own_of}
use Rattle.bt_round.specs.Done.{DeskDone, PlannerDone}
use Rattle.bt_round.specs.Worker.{Asks}

-- each element, with its place
abbrev pub AllAt : {X : Type 0} → (ℕ → X → Type 0) → List X → Type 0
AllAt {X} P xs = (i : ℕ) (d : X) → i < length xs → P i (slice_index_or xs i d)

-- the lines of a desk in a round, and none where the round has none for it
abbrev pub lines_of : ℕ → List (ℕ × List DeskLine) → List DeskLine
lines_of number [] = []
lines_of number (desk ∷ desks) = if desk.0 == number then desk.1 else lines_of number desks

-- The job at a place of a round: the centre's worker has place 0, the planner place 1, and desk `d` place `d + 1`. The publisher
-- and the readers have the same plans of one board.
abbrev pub IsJobAt : Round → Posted → AirState → ℕ → Job AirState → Type 0
IsJobAt round posted air place (Air lines centre) = (place ≡ 0) × (lines.now ≡ round.air) × (centre ≡ air)
IsJobAt round posted air place (Plans count publisher) = (place ≡ 1) × (count ≡ round.plans) × (publisher ≡ posted)
IsJobAt round posted air place (Desk desk lines reader) = (place ≡ desk + 1) × (1 ≤ desk) × (lines.now ≡ lines_of desk round.desks) × (reader ≡ posted)

-- the worker at a place of a line before its lines: nothing was seen or printed yet
pub record IsReady (table : TableId) (start : Books) (round : Round) (posted : Posted) (air : AirState) (place : ℕ) (caller : Calling) (job : Job AirState) (text : List ℕ) : Type 0 where
  pub table_is : caller.table ≡ table
  pub start_is : caller.start ≡ start
  pub pass : IsPass table start SEATS place caller.place
  pub unseen : seen_at caller.place ≡ []
  pub job_is : IsJobAt round posted air place job
  pub silent : text ≡ []

-- the lines at a place were done, where memory did not run out, with these entries and this text
abbrev pub IsDoneAt : Net → Round → Posted → AirState → ℕ → Job AirState → Result Unit OutOfMemory → List Entry → List ℕ → Type 0
IsDoneAt net round posted air place (Air lines over) ended own text =
    (place ≡ 0) × (opening_in over ≡ opening_in air) × OnOk ended (Asks (PlaysAirLines net air round.air) over [] own [] text)
IsDoneAt net round posted air place (Plans count over) ended own text =
    (place ≡ 1) × (over.board ≡ posted.board) × OnOk ended (PlannerDone net round.plans posted.plans over.plans [] own [] text)
IsDoneAt net round posted air place (Desk desk lines over) ended own text =
    (place ≡ desk + 1) × (1 ≤ desk) × (over.board ≡ posted.board)
    × OnOk ended (DeskDone net desk (lines_of desk round.desks) posted.plans over.plans [] own [] text)

-- the worker at a place of a line after its lines
pub record IsOver (net : Net) (table : TableId) (start : Books) (round : Round) (posted : Posted) (air : AirState) (place : ℕ) (caller : Calling) (job : Job AirState) (ended : Result Unit OutOfMemory) (text : List ℕ) : Type 0 where
  pub pass : IsPass table start SEATS place caller.place
  pub done : IsDoneAt net round posted air place job ended (own_of caller) text

-- the air of the centre's worker, if it is the job's
abbrev pub air_in : Job AirState → Option AirState
air_in (Air lines centre) = Some centre
air_in _ = None

-- the publisher of the planner, if it is the job's
abbrev pub publisher_in : Job AirState → Option Posted
publisher_in (Plans count publisher) = Some publisher
publisher_in _ = None

-- the reader of a desk, if it is the job's
abbrev pub reader_in : Job AirState → Option Posted
reader_in (Desk desk lines reader) = Some reader
reader_in _ = None

-- the centre's worker has place 0, the planner place 1, and desks the places behind
abbrev pub IsOfPlace : ℕ → Job AirState → Type 0
IsOfPlace place (Air lines centre) = place ≡ 0
IsOfPlace place (Plans count publisher) = place ≡ 1
IsOfPlace place (Desk desk lines reader) = 2 ≤ place

-- the publisher of a job is this one, and what its reader has seen this publisher has posted
abbrev pub IsOfBoard : Posted → Job AirState → Type 0
IsOfBoard last (Air lines centre) = Unit {0}
IsOfBoard last (Plans count publisher) = publisher ≡ last
IsOfBoard last (Desk desk lines reader) = IsPrefix reader.plans last.plans

-- the text at a place
abbrev pub text_at : ℕ → List (List ℕ) → List ℕ
text_at place texts = slice_index_or texts place []

-- The workers of a round did their lines: at each place is its job, done with the entries of that caller, and its text; and
-- nobody else has an entry. The publisher ends with the last of these boards' plans.
pub record AllDone (net : Net) (round : Round) (posted last : Posted) (air over : AirState) (entries : List Entry) (texts : List (List ℕ)) : Type 0 where
  pub first : (job : Job AirState) × (air_in job ≡ Some over) × IsDoneAt net round posted air 0 job (Ok tt) (calls_of entries 0) (text_at 0 texts)
  pub each : (place : ℕ) → place < SEATS → (job : Job AirState) × IsDoneAt net round posted air place job (Ok tt) (calls_of entries place) (text_at place texts) × IsOfBoard last job
  pub strangers : (caller : ℕ) → SEATS ≤ caller → calls_of entries caller ≡ []

-- Each pass has seen all of its caller's entries in the line's history, and no other caller has one.
pub record HaveSeen (log : List (line.TurnEntry Call Reply)) (passes : List (Place Books Call Reply)) : Type 0 where
  pub each : AllAt (λ (place : ℕ) (pass : Place Books Call Reply). HasSeen log place (seen_at pass)) passes
  pub strangers : (n : ℕ) → length passes ≤ n → calls_by n log ≡ []

-- The workers of a round left their places: their passes have seen what each of them did, and their texts stand behind the
-- text, those of the desks first, then the planner's, then that of the air.
pub record HaveWorked (net : Net) (round : Round) (posted last : Posted) (air over : AirState) (passes : List (Place Books Call Reply)) (text written : List ℕ) : Type 0 where
  pub texts : List (List ℕ)
  pub done : (log : List (line.TurnEntry Call Reply)) → HaveSeen log passes → AllDone net round posted last air over (map journal_entry log) texts
  pub printed : written ≡ text ++ (flat_map (λ (desk : ℕ × List DeskLine). text_at (desk.0 + 1) texts) round.desks ++ text_at 1 texts ++ text_at 0 texts)
