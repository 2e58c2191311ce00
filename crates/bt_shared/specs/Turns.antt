-- What always holds of the table that the callers share, and what each step on it tells. The log is the history of the
-- line: the entries that the object has stored since the line started.
use Rattle.std.specs.Prelude.{◌≡◌, ◌≢◌, ◌⊎◌, ℕ, ◌+◌, ◌-◌, ◌%◌, ◌^◌, ◌<◌, ◌≤◌, List, [], ◌∷◌, ◌++◌, length, sum_by, Option, Some, None}
use mathlib.Core.Option.{some, none}
use Rattle.bt_frame.specs.declared.limits.TheConstants.{MOST_CALLERS}
use lib.ListN.{get_elem?}
use Rattle.atomic_table.specs.Table.{State, Me, Step}
use Rattle.atomic_table.specs.Seated.{TableId}
use Rattle.bt_shared.specs.declared.object.TurnEntry.{TurnEntry}
use Rattle.bt_shared.specs.declared.turn_view.TurnView.{TurnView}
use Rattle.bt_shared.specs.Legal.{Legal, calls_by}
use Rattle.bt_shared.specs.Passes.{HasSeen}

-- a table of two words, the next ticket and the ticket that is served, and of one slot, for the object
abbrev pub IsSized : TableId → Type 0
IsSized table = (table.words ≡ 2) × (table.slots ≡ 1)

-- 1 where there is a ticket
abbrev pub one_of : Option ℕ → ℕ
one_of None = 0
one_of (Some ticket) = 1

module _ {O C R : Type 0} where
  -- 1 where the seat has a ticket
  abbrev pub waits : TurnView O C R → ℕ
  waits view = one_of view.ticket

  -- the view of a seat that was taken in
  abbrev pub gone : TurnView O C R
  gone = record { number = 0; start = None; seen = []; ticket = None; base = None; count = 0; kept = [] }

  -- the view of a pass as the line starts: it has seen nothing, and waits for no turn
  abbrev pub fresh : ℕ → Option O → ℕ → TurnView O C R
  fresh number start count = record { number = number; start = start; seen = []; ticket = None; base = None; count = count; kept = [] }

  -- the view of the first seat, which has given out its own number
  abbrev pub opening_view : O → TurnView O C R
  opening_view start = fresh 0 (Some start) 1

  -- the first seat after it gave out a number
  abbrev pub admits : TurnView O C R → TurnView O C R
  admits view = record view { count = view.count + 1 }

  -- the new seat, which has that number
  abbrev pub admitted : TurnView O C R → TurnView O C R
  admitted view = fresh view.count view.start 0

  -- the first seat after it took in another, whose history it keeps
  abbrev pub joined : TurnView O C R → TurnView O C R → TurnView O C R
  joined view other = record view { kept = other.seen ∷ view.kept }

  -- the view after its turn
  abbrev pub rested : TurnView O C R → List (TurnEntry C R) → TurnView O C R
  rested view seen = record view { seen = seen; ticket = None; base = None }

  -- What a seat that was not taken in knows, while `turn` is served and so many tickets are out: its ticket is one of
  -- those out; it has a base only in its turn, and the base is the log.
  pub record Knows (start : O) (turn out : ℕ) (log : List (TurnEntry C R)) (seat : ℕ) (view : TurnView O C R) : Type 0 where
    pub start_is : view.start ≡ Some start
    pub number_is : view.number ≡ seat
    pub seen : HasSeen log seat view.seen
    pub ticket : (k : ℕ) → view.ticket ≡ Some k → (turn ≤ k) × (k < turn + out)
    pub base : (b : List (TurnEntry C R)) → view.base ≡ Some b → (view.ticket ≡ Some turn) × (b ≡ log)

  -- no seat has the object: it is at home
  abbrev pub IsHome : O → State (Option O) (TurnView O C R) → Type 0
  IsHome object s = (s.homes ≡ some (Some object) ∷ []) × ((j : ℕ) (view : TurnView O C R) → get_elem? s.views j ≡ some view → view.base ≡ None)

  -- the object is out with a seat, whose base is the log
  abbrev pub IsOut : List (TurnEntry C R) → State (Option O) (TurnView O C R) → Type 0
  IsOut log s = (s.homes ≡ none ∷ []) × ((j : ℕ) × (view : TurnView O C R) × (get_elem? s.views j ≡ some view) × (view.base ≡ Some log))

  -- The first seat has the count of numbers given out, and what the last seats had seen, which it took in: each list is
  -- the beginning of the log for that seat's number.
  pub record Leads (log : List (TurnEntry C R)) (views : List (TurnView O C R)) (view : TurnView O C R) : Type 0 where
    pub at : get_elem? views 0 ≡ some view
    pub count_is : view.count ≡ length views
    pub fewer : length view.kept < view.count
    pub kept : (i : ℕ) (list : List (TurnEntry C R)) → get_elem? view.kept i ≡ some list
        → (get_elem? views (view.count - length view.kept + i) ≡ some gone) × HasSeen log (view.count - length view.kept + i) list

  -- The rule of the table.
  -- Words: the next ticket is the one that is served and as many more as seats wait. Tickets have no bound, and the
  -- words hold them modulo 2 ^ 64; at most as many are out as a line has callers, so no two of them agree there.
  -- Slot: the object is at home and no seat has a base, or it is out and a seat has the log as its base.
  -- Log: it is legal from the object at the start to the object as it is, or as it was when it went out, and the
  -- object's stored history is that of the start, and then the log.
  -- Seats: each has seen a beginning of the log with all entries of its own number, and no entry has a number that was
  -- not given out.
  pub record Kept (steps : O → ℕ → C → R → O → Type 0) (history : O → List (TurnEntry C R)) (start : O) (s : State (Option O) (TurnView O C R)) : Type 0 where
    pub turn : ℕ
    pub out : ℕ
    pub log : List (TurnEntry C R)
    pub object : O
    pub lead : TurnView O C R
    pub words_are : s.words ≡ (turn + out) % 2 ^ 64 ∷ turn % 2 ^ 64 ∷ []
    pub out_is : sum_by waits s.views ≡ out
    pub few : length s.views ≤ MOST_CALLERS
    pub each : (j : ℕ) (view : TurnView O C R) → get_elem? s.views j ≡ some view → (view ≡ gone) ⊎ Knows start turn out log j view
    pub apart : (i j : ℕ) (v w : TurnView O C R) (k : ℕ) → get_elem? s.views i ≡ some v → get_elem? s.views j ≡ some w → v.ticket ≡ Some k → w.ticket ≡ Some k → i ≡ j
    pub legal : Legal steps start log object
    pub stored : history object ≡ history start ++ log
    pub place : IsHome object s ⊎ IsOut log s
    pub leads : Leads log s.views lead
    pub strangers : (n : ℕ) → length s.views ≤ n → calls_by n log ≡ []

  -- the seat waits for no turn and has no object
  abbrev pub IsIdle : {S : Type 0} → Me S (TurnView O C R) → Type 0
  IsIdle m = (m.0.ticket ≡ None) × (m.0.base ≡ None) × (m.1 ≡ [])

  -- the step `draw`
  abbrev pub drawn : {S : Type 0} → Step S → Me S (TurnView O C R) → ℕ → Me S (TurnView O C R) → Type 0
  drawn st m found m' = (k : ℕ) × (found ≡ k % 2 ^ 64) × (m' ≡ (record m.0 { ticket = Some k }, m.1))

  -- the seat has the turn: the object is out with it, and its base is the object's history
  abbrev pub HasTurn : (O → ℕ → C → R → O → Type 0) → (O → List (TurnEntry C R)) → ℕ → Me (Option O) (TurnView O C R) → Me (Option O) (TurnView O C R) → Type 0
  HasTurn steps history k m m' = (b : List (TurnEntry C R)) × (o : O) × (m' ≡ (record m.0 { ticket = Some k; base = Some b }, (0, Some o) ∷ []))
      × ((x : O) → m.0.start ≡ Some x → Legal steps x b o × (history o ≡ history x ++ b)) × HasSeen b m.0.number m.0.seen

  -- the seat has an object out, of which this holds
  abbrev pub HasOut : Me (Option O) (TurnView O C R) → (O → Type 0) → Type 0
  HasOut m says = (object : O) × (m.1 ≡ (0, Some object) ∷ []) × says object

  -- the step `look`: a seat that finds its own ticket has the slot from then on
  abbrev pub looked : (O → ℕ → C → R → O → Type 0) → (O → List (TurnEntry C R)) → Step (Option O) → Me (Option O) (TurnView O C R) → ℕ → Me (Option O) (TurnView O C R) → Type 0
  looked steps history st m found m' = (k : ℕ) → m.0.ticket ≡ Some k
      → (found ≡ k % 2 ^ 64 → HasTurn steps history k m m') × (found ≢ k % 2 ^ 64 → m' ≡ m)

  -- the step `pass on`: the seat has seen what the object has stored when it gives it back, or no more than before where the call made no entry
  abbrev pub passed : (O → List (TurnEntry C R)) → Step (Option O) → Me (Option O) (TurnView O C R) → ℕ → Me (Option O) (TurnView O C R) → Type 0
  passed history st m found m' = (m' ≡ (rested m.0 m'.0.seen, []))
      × ((x p : O) (b : List (TurnEntry C R)) → m.0.start ≡ Some x → m.0.base ≡ Some b → m.1 ≡ (0, Some p) ∷ []
      → (history p ≡ history x ++ b → m'.0.seen ≡ m.0.seen) × ((e : TurnEntry C R) → history p ≡ history x ++ b ++ e ∷ [] → m'.0.seen ≡ b ++ e ∷ []))

  -- the object may be given back: it has stored what it had when it went out, and at most one entry more, of this caller
  abbrev pub MayGive : (O → ℕ → C → R → O → Type 0) → (O → List (TurnEntry C R)) → O → List (TurnEntry C R) → ℕ → O → Type 0
  MayGive steps history x b number p = (Legal steps x b p × (history p ≡ history x ++ b))
      ⊎ ((e : TurnEntry C R) × (e.caller ≡ number) × Legal steps x (b ++ e ∷ []) p × (history p ≡ history x ++ b ++ e ∷ []))
