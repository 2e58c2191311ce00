-- Passes as contracts speak of them: of which line each is, and what it has seen of the line's history.
use Rattle.std.specs.Prelude.{◌≡◌, ℕ, List, [], ◌∷◌, ◌++◌, Option, Some}
use mathlib.Core.List.{IsPrefix}
use Rattle.atomic_table.specs.Seated.{TableId}
use Rattle.atomic_table.specs.declared.shared.Seat.{Seat}
use Rattle.bt_shared.specs.declared.object.TurnEntry.{TurnEntry}
use Rattle.bt_shared.specs.declared.turn_view.TurnView.{TurnView}
use Rattle.bt_shared.specs.Legal.{Legal, calls_by}

-- the place of a pass in its line
abbrev pub Place : Type 0 → Type 0 → Type 0 → Type 0
Place O C R = Seat (Option O) (TurnView O C R)

-- the history begins with the list, and has the same entries of one caller
pub record HasSeen {C R : Type 0} (log : List (TurnEntry C R)) (number : ℕ) (list : List (TurnEntry C R)) : Type 0 where
  pub begins : IsPrefix list log
  pub own : calls_by number log ≡ calls_by number list

module _ {O C R : Type 0} where
  -- what a pass has seen of its line's history
  abbrev pub seen_at : Place O C R → List (TurnEntry C R)
  seen_at place = place.me.0.seen

  -- the pass is one of the line with this table, which started from this object
  pub record IsOfLine (table : TableId) (start : O) (place : Place O C R) : Type 0 where
    pub table_is : place.table_id ≡ table
    pub start_is : place.me.0.start ≡ Some start

  -- the pass of this number among so many of a line; the first of them has given out all numbers
  pub record IsPass (table : TableId) (start : O) (passes number : ℕ) (place : Place O C R) : Type 0 where
    pub of_line : IsOfLine table start place
    pub number_is : place.me.0.number ≡ number
    pub leads : number ≡ 0 → (place.me.0.count ≡ passes) × (place.me.0.kept ≡ [])

  -- the same pass later: all stays but what it has seen
  pub record IsSamePass (old new : Place O C R) : Type 0 where
    pub table_is : new.table_id ≡ old.table_id
    pub start_is : new.me.0.start ≡ old.me.0.start
    pub number_is : new.me.0.number ≡ old.me.0.number
    pub count_is : new.me.0.count ≡ old.me.0.count
    pub kept_is : new.me.0.kept ≡ old.me.0.kept

  -- What a pass has seen after an answered call: all that it saw before, then what others did meanwhile, then the entry of
  -- this call; legal from the start of the line; and of its own caller no entry but the earlier ones and this one.
  pub record Gains (steps : O → ℕ → C → R → O → Type 0) (start : O) (old : List (TurnEntry C R)) (entry : TurnEntry C R) (new : List (TurnEntry C R)) : Type 0 where
    pub before : List (TurnEntry C R)
    pub begins : IsPrefix old before
    pub ends : new ≡ before ++ entry ∷ []
    pub legal : (object : O) × Legal steps start new object
    pub own : calls_by entry.caller new ≡ calls_by entry.caller old ++ entry ∷ []
