-- How far a run has come: what it has in hand, and what a part of a script makes of that.
use Rattle.std.specs.Prelude.{◌≡◌, ◌≢◌, ◌⊎◌, ℕ, ◌+◌, ◌≤◌, ◌++◌, Bool, true, false, List, [], ◌∷◌, length, reverse, All, AllPairs, Option, IfSome}
use Rattle.std.specs.List.{HoldsAt}
use Rattle.std.specs.Option.{is_some}
use Rattle.bt_outside.specs.Crash.{Crashes}
use Rattle.bt_outside.specs.Told.{gained}
use Rattle.bt_net.specs.Network.{Net}
use Rattle.bt_air.specs.declared.event.Event.{Event}
use Rattle.bt_air.specs.declared.order.Order.{Order}
use Rattle.bt_script.specs.declared.sites.Sites.{Sites}
use Rattle.bt_script.specs.declared.sites.Sites.TheVariants.{Together}
use Rattle.bt_journal.specs.declared.call.Change.{Change}
use Rattle.bt_history.specs.declared.fault.RecoverFault.{RecoverFault}
use Rattle.bt_history.specs.declared.fault.RecoverFault.TheVariants.{OutOfMemory, StoreFault}
use Rattle.bt_history.specs.Book.{Books}
use Rattle.bt_history.specs.Causes.{Follows}
use Rattle.bt_history.specs.Changes.{orders}
use Rattle.bt_history.specs.Crash.{Last}
use Rattle.bt_history.specs.Machine.{Legal, running, state_after}
use Rattle.bt_history.specs.Recovery.{IsRecoverFault, MaybeRecovered}
use Rattle.bt_history.specs.Store.{IsKept, IsNextOpening, RoseBy, lost_of}
use Rattle.bt_script.specs.declared.script.Item.{Item}
use Rattle.bt_script.specs.declared.script.Item.TheVariants as item
use Rattle.bt_script.specs.declared.script.Round.{Round}
use Rattle.bt_timeline.specs.Timeline.{restart_line, round_line}
use Rattle.bt_centre.specs.declared.history.History.{History}
use Rattle.bt_round.specs.declared.worker.CentreOver.TheVariants.{Simulated, Apart}
use Rattle.bt_round.specs.AirLines.{AirState, back_of, events_in, hearing, mark_of, opening_in, restarting}
use Rattle.bt_round.specs.Desks.{IsNotOlder, Sight}
use Rattle.bt_round.specs.Rounds.{BookRan, LastOn, RoundDone, newest_at}
use Rattle.bt_report.specs.Output.{Output}
use Rattle.bt_centre.specs.Lines.{begin_lines}
use Rattle.bt_centre.specs.Run.{AreFew, AreTimes, EndsFrom, JoinsOrder, PlaysItems, Stand, at_start, first_line, lost_in, opening_on}
use Rattle.bt_centre.specs.World.{IsSpelledWorld}

-- What a run has in hand: the histories of the times that are over, how many changes the book had when the present time began, the
-- book, the air, and the rounds so far.
pub record Hand : Type 0 where
  pub over : List History
  pub before : ℕ
  pub book : Books
  pub air : AirState
  pub rounds : ℕ

-- the history of the present time
abbrev pub history_in : Hand → History
history_in hand = record { before = hand.before; entries = hand.book.history }

-- the histories of all times
abbrev pub histories_in : Hand → List History
histories_in hand = hand.over ++ history_in hand ∷ []

-- the sites of an air are together: it is a simulated one
abbrev pub IsTogether : AirState → Type 0
IsTogether (Simulated a) = Unit {0}
IsTogether (Apart a) = ⊥

-- the lines of a start
abbrev pub start_of : Hand → List ℕ
start_of hand = begin_lines hand.book.state.changes (mark_of hand.air) (back_of hand.air)

-- a run at its start, where the sites are so
pub record IsBegun (net : Net) (sites : Sites) (hand : Hand) : Type 0 where
  pub network : hand.book.net ≡ net
  pub over : hand.over ≡ []
  pub before : hand.before ≡ length hand.book.state.changes
  pub none : hand.book.history ≡ []
  pub runs : hand.book.state ≡ running hand.book.state.changes
  pub follow : Follows net hand.book.state.changes
  pub few : AreFew hand.book.net hand.book.state.changes
  pub air : hand.air ≡ (at_start net sites hand.book.state.changes).air
  pub rounds : hand.rounds ≡ 0

-- why a run did not begin: the recovery failed, or memory ran out over it or behind it
abbrev pub IsOpenFault : Net → Option (List ℕ) → Option (List ℕ) → ℕ → ℕ → RecoverFault → Type 0
IsOpenFault net old new before now OutOfMemory = MaybeRecovered net old new before now
IsOpenFault net old new before now fault = IsRecoverFault net old new before now fault

-- A run that began with a book so came here by legal times, of which the present one began with these changes.
pub record IsLegalHand (net : Net) (begun : Books) (opening : List Change) (hand : Hand) : Type 0 where
  pub network : hand.book.net ≡ net
  pub before : hand.before ≡ length opening
  pub times : AreTimes net (is_some begun.told) begun.state.changes hand.over opening
  pub opens : Follows net opening
  pub legal : Legal net opening hand.book.history
  pub reached : hand.book.state ≡ state_after opening hand.book.history
  pub follow : Follows net hand.book.state.changes
  pub count : RoseBy (length (lost_in (histories_in hand))) begun.faults hand.book.faults
  pub tells : is_some hand.book.told ≡ is_some begun.told
  pub world : opening_in hand.air ≡ opening_on net begun.state.changes

-- Parts of a script were played on the way. What the desks were shown in the present time is not newer than the newest plan.
pub record ItemsDone (net : Net) (sites : Sites) (begun : Books) (items : List Item) (hand : Hand) (lines : List ℕ) : Type 0 where
  pub end : Stand
  pub played : PlaysItems net (is_some begun.told) (at_start net sites begun.state.changes) items lines end
  pub so_far : IsLegalHand net begun end.opening hand
  pub over_is : end.over ≡ hand.over
  pub history_is : end.history ≡ hand.book.history
  pub air_is : end.air ≡ hand.air
  pub rounds_are : end.rounds ≡ hand.rounds
  pub old : All (λ (sight : Sight). sight.plan.edition.0 ≤ newest_at hand.book) end.sights
  pub ascend : AllPairs IsNotOlder end.sights

-- the same, and the first line and theirs stand behind what a sink had
pub record ItemsWritten (net : Net) (begun : Books) (items : List Item) (hand : Hand) (before after : Option (List ℕ)) : Type 0 where
  pub lines : List ℕ
  pub done : ItemsDone net Together begun items hand lines
  pub wrote : after ≡ gained before (first_line net Together begun.state.changes ++ lines)

-- what stays in hand over a round: all but the book, the air, and the count of rounds
pub record GoesOn (old new : Hand) : Type 0 where
  pub over : new.over ≡ old.over
  pub before : new.before ≡ old.before
  pub ran : BookRan old.book new.book
  pub world : opening_in new.air ≡ opening_in old.air

-- a round was played, and its text stands behind its own line
pub record RoundPlayed (net : Net) (round : Round) (old new : Hand) (text : List ℕ) : Type 0 where
  pub goes : GoesOn old new
  pub rounds : new.rounds ≡ old.rounds + 1
  pub done : RoundDone net round old.air new.air old.book new.book (round_line new.rounds) text

-- these changes have one order more than so many, and the last of them is this one
pub record HasJoined (changes : List Change) (placed : ℕ) (order : Order) : Type 0 where
  pub more : length (orders changes) ≡ placed + 1
  pub last : HoldsAt (λ (one : Order). one ≡ order) (orders changes) placed

-- whether they have
abbrev pub TellsJoined : List Change → ℕ → Order → Bool → Type 0
TellsJoined changes placed order true = HasJoined changes placed order
TellsJoined changes placed order false = ¬ (HasJoined changes placed order)

-- the centre restarted over these changes, with the order that it wanted or without it, and its lines were printed
pub record CentreBegan (changes : List Change) (air over : AirState) (text : List ℕ) : Type 0 where
  pub kept : Bool
  pub joins : JoinsOrder air changes kept
  pub restarts : over ≡ restarting air kept (reverse (orders changes))
  pub printed : text ≡ restart_line ++ begin_lines changes (mark_of air) (back_of over)

-- a time begins over this book, behind these times
pub record BeganAgain (book : Books) (air : AirState) (over : List History) (rounds : ℕ) (new : Hand) (text : List ℕ) : Type 0 where
  pub over_is : new.over ≡ over
  pub before : new.before ≡ length book.state.changes
  pub book_is : new.book ≡ book
  pub few : AreFew book.net book.state.changes
  pub rounds_are : new.rounds ≡ rounds
  pub centre : CentreBegan book.state.changes air new.air text

-- the store was read again, over which the changes last; the time is over, and the centre restarted
pub record RestartPlayed (net : Net) (old new : Hand) (text : List ℕ) : Type 0 where
  pub over : new.over ≡ histories_in old
  pub before : new.before ≡ length new.book.state.changes
  pub network : new.book.net ≡ net
  pub none : new.book.history ≡ []
  pub runs : new.book.state ≡ running new.book.state.changes
  pub follow : Follows net new.book.state.changes
  pub few : AreFew net new.book.state.changes
  pub next : IfSome old.book.told (λ _. IsNextOpening old.book.state.changes (lost_of old.book.history) new.book.state.changes)
  pub tells : is_some new.book.told ≡ is_some old.book.told
  pub later : old.book.faults ≤ new.book.faults
  pub last : Last net old.book.state.changes old.book.crashes new.book.crashes
  pub rounds : new.rounds ≡ old.rounds
  pub centre : CentreBegan new.book.state.changes old.air new.air text

-- a part of a script was played; where a line of the bus was heard, nothing is printed, and the air alone is another
abbrev pub ItemPlayed : Net → Item → Hand → Hand → List ℕ → Type 0
ItemPlayed net (item.Round round) old new text = RoundPlayed net round old new text
ItemPlayed net item.Restart old new text = RestartPlayed net old new text
ItemPlayed net (item.Heard line) old new text = (text ≡ []) × (new ≡ record old { air = hearing old.air line })

-- What is left of a run: what its store tells, with its count of faults and what a crash may leave, the histories, and the events.
pub record Left : Type 0 where
  pub told : Option (List ℕ)
  pub faults : ℕ
  pub crashes : Option Crashes
  pub histories : List History
  pub events : List Event

-- what is left where a run stops with this in hand
pub record IsLeftOf (hand : Hand) (left : Left) : Type 0 where
  pub told : left.told ≡ hand.book.told
  pub faults : left.faults ≡ hand.book.faults
  pub crashes : left.crashes ≡ hand.book.crashes
  pub histories : left.histories ≡ histories_in hand
  pub events : left.events ≡ events_in hand.air
  pub world : IsSpelledWorld (opening_in hand.air) (reverse left.events)
  pub kept : IsKept hand.book.net hand.book.told hand.book.state.changes (lost_of hand.book.history)

-- what is left where memory ran out over a restart, once the book was recovered
pub record IsLeftBehind (book : Books) (air : AirState) (over : List History) (left : Left) : Type 0 where
  pub told : left.told ≡ book.told
  pub faults : left.faults ≡ book.faults
  pub crashes : left.crashes ≡ book.crashes
  pub histories : left.histories ≡ over
  pub world : IsSpelledWorld (opening_in air) (reverse left.events)

-- what is left where memory ran out over a part: the histories, with what was asked and answered meanwhile, the store that keeps that,
-- with the changes from before it, which last on, and the events of a world
pub record IsLeftEarly (old : Hand) (left : Left) : Type 0 where
  pub hand : Hand
  pub goes : GoesOn old hand
  pub histories : left.histories ≡ histories_in hand
  pub kept : IsKept hand.book.net hand.book.told hand.book.state.changes (lost_of hand.book.history)
  pub cut : MaybeRecovered hand.book.net hand.book.told left.told hand.book.faults left.faults
  pub later : hand.book.faults ≤ left.faults
  pub last : LastOn old.book.net old.book.state.changes old.book.crashes left.crashes
  pub world : IsSpelledWorld (opening_in old.air) (reverse left.events)

-- the recovery at a restart failed: the run stopped before it, and the store is left as the fault says. A store that tells its bytes
-- can only have failed. The changes last over it.
pub record IsLeftAtRestart (net : Net) (old : Hand) (left : Left) (fault : RecoverFault) : Type 0 where
  pub named : fault ≢ OutOfMemory
  pub failed : IsRecoverFault net old.book.told left.told old.book.faults left.faults fault
  pub later : old.book.faults ≤ left.faults
  pub only : IfSome old.book.told (λ _. fault ≡ StoreFault)
  pub last : Last net old.book.state.changes old.book.crashes left.crashes
  pub histories : left.histories ≡ histories_in old
  pub events : left.events ≡ events_in old.air
  pub world : IsSpelledWorld (opening_in old.air) (reverse left.events)
  pub kept : IsKept old.book.net old.book.told old.book.state.changes (lost_of old.book.history)

-- a part could not be played: memory ran out, or it was a restart, and the recovery failed
abbrev pub ItemFailed : Net → Item → Hand → Left → RecoverFault → Type 0
ItemFailed net one old left fault = ((fault ≡ OutOfMemory) × IsLeftEarly old left) ⊎ ((one ≡ item.Restart) × IsLeftAtRestart net old left fault)

-- how the parts of a script ended, from a book on, and the world in which they did
pub record PartsEnded (net : Net) (items : List Item) (output : Output) (begun : Books) (left : Left) (status : ℕ) : Type 0 where
  pub world : IsSpelledWorld (opening_on net begun.state.changes) (reverse left.events)
  pub ends : EndsFrom net items output (record { before = begun.told; after = left.told; faults_before = begun.faults; faults_after = left.faults }) begun.state.changes status left.histories left.events
