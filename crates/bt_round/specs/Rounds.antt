-- What a round does: the lines of its workers, with their entries and their texts.
use Rattle.std.specs.Prelude.{◌≡◌, ℕ, ◌<◌, ◌++◌, List, length, map, All, AllPairs, Option}
use Rattle.std.specs.Option.{is_some}
use Rattle.bt_outside.specs.Crash.{Crashes}
use Rattle.bt_net.specs.Network.{Net}
use Rattle.bt_journal.specs.declared.call.Change.{Change}
use Rattle.bt_journal.specs.declared.entry.Entry.{Entry}
use Rattle.bt_journal.specs.Journal.{calls_of}
use Rattle.bt_history.specs.Causes.{Follows}
use Rattle.bt_history.specs.Book.{Books}
use Rattle.bt_history.specs.Changes.{newest}
use Rattle.bt_history.specs.Crash.{Last}
use Rattle.bt_history.specs.Machine.{state_after, state_from, Legal}
use Rattle.bt_history.specs.Store.{RoseBy, lost_of}
use Rattle.bt_script.specs.declared.script.Round.{Round}
use Rattle.bt_round.specs.AirLines.{AirState, PlaysAirLines}
use Rattle.bt_round.specs.Boards.{IsShownBetween}
use Rattle.bt_round.specs.Desks.{IsNotOlder, Sight, asked_by, desks_text, shown_to, shows_of}
use Rattle.bt_round.specs.Planning.{PlaysPlans, planner_text}

-- these changes last on from one moment to another, where they last at the first of them
abbrev pub LastOn : Net → List Change → Option Crashes → Option Crashes → Type 0
LastOn net changes old new = Last net changes old old → Last net changes old new

-- a book before and after a round: its history has gained entries, by steps of the machine, and the count of its store's faults rose by as
-- many changes as the store lost; it tells its bytes as before, or does not; and its changes from before last on
pub record BookRan (old new : Books) : Type 0 where
  pub net : new.net ≡ old.net
  pub entries : List Entry
  pub kept : new.history ≡ old.history ++ entries
  pub from : new.state ≡ state_from old.state entries
  pub legal : (opening : List Change) → Legal old.net opening old.history → old.state ≡ state_after opening old.history → Legal old.net opening new.history
  pub reached : (opening : List Change) → old.state ≡ state_after opening old.history → new.state ≡ state_after opening new.history
  pub follows : Follows old.net new.state.changes
  pub rose : RoseBy (length (lost_of entries)) old.faults new.faults
  pub tells : is_some new.told ≡ is_some old.told
  pub last : LastOn old.net old.state.changes old.crashes new.crashes

-- the edition of the newest plan of a book
abbrev pub newest_at : Books → ℕ
newest_at book = (newest book.state.changes).edition.0

-- the lines of a round were done: of each desk its edits were asked, of the planner and of the centre's worker what their lines
-- ask, and all was printed
pub record RoundDone (net : Net) (round : Round) (air over : AirState) (old new : Books) (text written : List ℕ) : Type 0 where
  pub entries : List Entry
  pub sights : List Sight
  pub air_text : List ℕ
  pub desks : (caller : ℕ) → 1 < caller → map (λ entry. entry.call) (calls_of entries caller) ≡ asked_by caller round.desks
  pub planner : PlaysPlans net round.plans (calls_of entries 1)
  pub centre : PlaysAirLines net air round.air (calls_of entries 0) air_text over
  pub kept : new.history ≡ old.history ++ entries
  pub seen : All (λ (sight : Sight). IsShownBetween old.state.changes new.state.changes sight.plan) sights
  pub shown : (desk : ℕ) → length (shown_to desk sights) ≡ length (shows_of desk round.desks)
  pub ascend : AllPairs IsNotOlder sights
  pub printed : written ≡ text ++ (desks_text net round.desks entries sights ++ planner_text net (calls_of entries 1) ++ air_text)
