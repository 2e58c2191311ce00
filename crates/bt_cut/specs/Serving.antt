-- How the slots of a connection are told apart by their numbers. The slots of a connection that modes give are
-- numbered in ascending order, and so are the units of its links.
use Rattle.std.specs.Prelude.{◌≡◌, ◌⊎◌, ℕ, ◌+◌, ◌*◌, ◌<◌, ◌≤◌, min, max, List, ◌++◌, length, take, sum_by, slice_index_or, All, AllPairs, Contains}
use Rattle.bt_frame.specs.declared.limits.TheConstants.{MOST_BEAMS, MOST_SLOTS}
use Rattle.bt_frame.specs.declared.numbers.TermNo.{TermNo}
use Rattle.bt_frame.specs.declared.mode.Mode.{Mode}
use Rattle.bt_matrix.specs.Good.{slots_of}
use Rattle.bt_demand.specs.declared.burst.Burst.{Burst}
use Rattle.bt_demand.specs.Plan.{begin_of}
use Rattle.bt_cut.specs.declared.connection.Connection.{Connection}
use Rattle.bt_cut.specs.declared.connection.Span.{Span}

-- the number of a connection's first slot in the mode at that place: its slots in the modes before
abbrev pub number_at : List Mode → ℕ → ℕ → ℕ → ℕ
number_at modes up down place = slots_of (take place modes) up down

-- the burst has the slots of that mode whose numbers are those of a link's units, which are so many from `first` on
pub record IsPiece (modes : List Mode) (up down : ℕ) (from to : TermNo) (first units place : ℕ) (burst : Burst) : Type 0 where
  pub in_range : place < length modes
  pub sends : burst.from ≡ from
  pub receives : burst.to ≡ to
  pub some : 0 < burst.length
  pub begins : burst.start + number_at modes up down place ≡ begin_of modes place + max first (number_at modes up down place)
  pub ends : burst.length + max first (number_at modes up down place) ≡ min (first + units) (number_at modes up down (place + 1))

-- the bursts are all pieces of a link, each once
pub record ArePieces (modes : List Mode) (up down : ℕ) (from to : TermNo) (first units : ℕ) (bursts : List Burst) : Type 0 where
  pub each : All (λ burst. (place : ℕ) × IsPiece modes up down from to first units place burst) bursts
  pub all : (place : ℕ) (burst : Burst) → IsPiece modes up down from to first units place burst → Contains bursts burst
  pub distinct : AllPairs (λ a b. (a ≡ b) → ⊥) bursts

-- the slots of all spans together
abbrev pub slots_in_all : List Span → ℕ
slots_in_all spans = sum_by (λ span. span.length) spans

-- the span is what one mode gives the connection, and its first slot has that number
pub record IsTurn (modes : List Mode) (up down number : ℕ) (span : Span) : Type 0 where
  pub place : ℕ
  pub in_range : place < length modes
  pub some : 0 < span.length
  pub begins : span.start ≡ begin_of modes place
  pub before : number_at modes up down place ≡ number
  pub behind : number_at modes up down (place + 1) ≡ number + span.length

-- each span is what one mode gives the connection
abbrev pub AreTurns : List Mode → ℕ → ℕ → List Span → Type 0
AreTurns modes up down spans = (k : ℕ) (other : Span) → k < length spans → IsTurn modes up down (slots_in_all (take k spans)) (slice_index_or spans k other)

-- the number of the first slot that is not taken
abbrev pub taken_of : Connection → ℕ
taken_of connection = slots_in_all (take connection.next connection.spans.items) + connection.used

-- no slot of the next span is taken, or some but not all
pub record IsReady (connection : Connection) : Type 0 where
  pub within : connection.next ≤ length connection.spans.items
  pub fits : (other : Span) → connection.next < length connection.spans.items → connection.used < (slice_index_or connection.spans.items connection.next other).length
  pub none : length connection.spans.items ≤ connection.next → connection.used ≡ 0
  pub spans : All (λ span. (0 < span.length) × (span.start + span.length ≤ MOST_SLOTS)) connection.spans.items

-- the connection has given up so many more slots, and stays as it is
pub record HasGiven (old new : Connection) (units : ℕ) : Type 0 where
  pub spans : new.spans.items ≡ old.spans.items
  pub taken : taken_of new ≡ taken_of old + units
  pub ready : IsReady new

-- the burst is the next of a link: from the first free slot on, to the end of its span or of the link
pub record IsNext (connection new : Connection) (from to : TermNo) (left : ℕ) (burst : Burst) : Type 0 where
  pub sends : burst.from ≡ from
  pub receives : burst.to ≡ to
  pub some : 0 < burst.length
  pub few : burst.length ≤ left
  pub begins : (other : Span) → burst.start ≡ (slice_index_or connection.spans.items connection.next other).start + connection.used
  pub within : (other : Span) → connection.used + burst.length ≤ (slice_index_or connection.spans.items connection.next other).length
  pub whole : (burst.length ≡ left) ⊎ (new.used ≡ 0)

-- the link has got its slots: behind the bursts before stand its pieces
pub record IsServedBy (spans : List Span) (from to : TermNo) (first units : ℕ) (old new : List Burst) : Type 0 where
  pub more : List Burst
  pub behind : new ≡ old ++ more
  pub few : length more ≤ units
  pub pieces : (modes : List Mode) (up down : ℕ) → AreTurns modes up down spans → ArePieces modes up down from to first units more

-- the span is what the mode at that place gives the connection
pub record IsGivenBy (modes : List Mode) (up down place : ℕ) (span : Span) : Type 0 where
  pub in_range : place < length modes
  pub some : 0 < span.length
  pub small : span.start + span.length ≤ MOST_SLOTS
  pub begins : span.start ≡ begin_of modes place
  pub behind : number_at modes up down (place + 1) ≡ number_at modes up down place + span.length

-- the connection has all slots of the modes before that place, of which so many are taken
pub record HasSlots (modes : List Mode) (up down place taken : ℕ) (connection : Connection) : Type 0 where
  pub turns : AreTurns modes up down connection.spans.items
  pub all : slots_in_all connection.spans.items ≡ number_at modes up down place
  pub ready : IsReady connection
  pub so_many : taken_of connection ≡ taken

-- The table has each connection between so many beams at its place, with the slots of the modes before a place.
pub record IsTable (modes : List Mode) (beams place : ℕ) (taken : ℕ → ℕ → ℕ) (table : List Connection) : Type 0 where
  pub count : length table ≡ MOST_BEAMS * MOST_BEAMS
  pub each : (up down : ℕ) (other : Connection) → up < beams → down < beams → HasSlots modes up down place (taken up down) (slice_index_or table (up * MOST_BEAMS + down) other)
