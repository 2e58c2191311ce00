-- How far a session has come: what its lines made of what a run has in hand.
use Rattle.std.specs.Prelude.{◌≡◌, ◌≢◌, ◌⊎◌, ℕ, ◌+◌, ◌++◌, Bool, false, List, [], ◌∷◌, length, reverse, Option, Some, None}
use Rattle.std.specs.Option.{is_some}
use Rattle.bt_outside.specs.Told.{gained}
use Rattle.bt_outside.specs.Input.{given_by}
use Rattle.bt_outside.specs.Talk.{Shown, Turn, took}
use Rattle.bt_net.specs.Network.{Net}
use Rattle.bt_script.specs.declared.sites.Sites.{Sites}
use Rattle.bt_script.specs.declared.line.ScriptLine.{ScriptLine}
use Rattle.bt_script.specs.declared.script.Item.{Item}
use Rattle.bt_script.specs.declared.script.Round.{Round}
use Rattle.bt_history.specs.Book.{Books}
use Rattle.bt_history.specs.Crash.{Last}
use Rattle.bt_history.specs.declared.fault.RecoverFault.{RecoverFault}
use Rattle.bt_history.specs.declared.fault.RecoverFault.TheVariants.{OutOfMemory}
use Rattle.bt_talk.specs.declared.block.Step.{Step}
use Rattle.bt_talk.specs.declared.block.Step.TheVariants as step
use Rattle.bt_talk.specs.Asked.{open_behind, rounds_in_turn, timed_after}
use Rattle.bt_talk.specs.Blocks.{Open, line_bytes}
use Rattle.bt_talk.specs.Clock.{TicksAll}
use Rattle.bt_centre.specs.declared.session.InputEnd.{InputEnd}
use Rattle.bt_round.specs.Trial.{AllTried}
use Rattle.bt_centre.specs.Progress.{Hand, IsLeftEarly, IsLeftOf, ItemFailed, ItemPlayed, ItemsDone, Left, RoundPlayed}
use Rattle.bt_centre.specs.RecoverFaults.{recover_line, recover_status}
use Rattle.bt_centre.specs.Run.{at_start, changes_at, opening_on}
use Rattle.bt_centre.specs.Session.{Exchange, PlaysLines, SessionEndsFrom, ShowsChanges, StopsHearing, came_in, heard_in, session_turns, shown_behind, told_in}
use Rattle.bt_centre.specs.Talked.{Says, SaysNothing, Talked, spoken}
use Rattle.bt_centre.specs.Told.{IsTold}
use Rattle.bt_centre.specs.World.{IsSpelledWorld}

-- memory ran out, or the line of a recovery's fault, which has one, was said behind this text
abbrev pub SaysNamed : Talked → List ℕ → RecoverFault → ℕ → Type 0
SaysNamed talk text fault status = SaysNothing talk status ⊎ ((fault ≢ OutOfMemory) × Says talk (text ++ recover_line fault) (recover_status fault) status)

-- a crash now leaves the changes of the book in hand
abbrev pub LastsIn : Hand → Type 0
LastsIn hand = Last hand.book.net hand.book.state.changes hand.book.crashes hand.book.crashes

-- rounds were played one after the other, and behind each a crash leaves the changes that were made
abbrev pub RoundsPlayed : Net → List Round → Hand → Hand → List ℕ → Type 0
RoundsPlayed net [] old new text = (new ≡ old) × (text ≡ [])
RoundsPlayed net (round ∷ rounds) old new text =
    (between : Hand) × (own : List ℕ) × (rest : List ℕ) × RoundPlayed net round old between own × LastsIn between × RoundsPlayed net rounds between new rest × (text ≡ own ++ rest)

-- all of a block was played, or nothing
abbrev pub AllPlayed : Net → List ScriptLine → Hand → Hand → List ℕ → Type 0
AllPlayed net said old new text =
    (AllTried net old.book.state 1 said None × RoundsPlayed net (rounds_in_turn said) old new text)
    ⊎ ((refusal : List ℕ) × AllTried net old.book.state 1 said (Some refusal) × (text ≡ refusal) × (new ≡ old))

-- what a line comes to was played, or told
abbrev pub StepPlayed : Net → Step → Hand → Hand → List ℕ → Type 0
StepPlayed net (step.Plays one) old new text = ItemPlayed net one old new text
StepPlayed net step.Nothing old new text = (new ≡ old) × (text ≡ [])
StepPlayed net (step.Fault code) old new text = (new ≡ old) × (text ≡ [])
StepPlayed net (step.Clock on) old new text = (new ≡ old) × (text ≡ [])
StepPlayed net (step.Tells one) old new text = (new ≡ old) × IsTold net old.book.state old.air one text
StepPlayed net (step.All said) old new text = AllPlayed net said old new text

-- it could not be played
abbrev pub StepFailed : Net → Step → Hand → Left → RecoverFault → Type 0
StepFailed net (step.Plays one) old left fault = ItemFailed net one old left fault
StepFailed net step.Nothing old left fault = ⊥
StepFailed net (step.Fault code) old left fault = ⊥
StepFailed net (step.Clock on) old left fault = ⊥
StepFailed net (step.Tells one) old left fault = (fault ≡ OutOfMemory) × IsLeftOf old left
StepFailed net (step.All said) old left fault = (fault ≡ OutOfMemory) × IsLeftEarly old left

-- these turns were taken between two moments of a talk, of which this was told
pub record Took (turns : List Turn) (before after : Option (List ℕ)) (turns_before turns_after : Option (List Turn)) : Type 0 where
  pub wrote : after ≡ gained before (spoken turns)
  pub turn : turns_after ≡ took turns_before turns

-- lines were played on the way, and the changes made up to there last from the last piece said
pub record SessionDone (net : Net) (sites : Sites) (begun : Books) (start : Shown) (exchanges : List Exchange) (hand : Hand) : Type 0 where
  pub parts : List Item
  pub lines : List ℕ
  pub done : ItemsDone net sites begun parts hand lines
  pub played : PlaysLines net sites (is_some begun.told) 1 [] false (at_start net sites begun.state.changes) start exchanges parts done.end
  pub lasts : Last net (changes_at done.end) (shown_behind start exchanges).crashes hand.book.crashes

-- the same, and the first piece was said, and each of them was answered
pub record SessionSaid (net : Net) (sites : Sites) (begun : Books) (exchanges : List Exchange) (hand : Hand) (before after : Option (List ℕ)) (turns_before turns_after : Option (List Turn)) (moments_before moments_after : Option (List (List ℕ))) : Type 0 where
  pub start : Shown
  pub done : SessionDone net sites begun start exchanges hand
  pub shows : ShowsChanges net (at_start net sites begun.state.changes) start
  pub taken : Took (session_turns net sites begun.state.changes start exchanges) before after turns_before turns_after
  pub ticked : TicksAll moments_before (told_in exchanges) moments_after

-- an input gave these between two moments
abbrev pub GaveSince : Sites → Option (List ℕ) → Option (List ℕ) → List (Option (List ℕ)) → Type 0
GaveSince sites (Some bytes) (Some rest) lines = given_by (line_bytes sites) bytes ≡ lines ++ given_by (line_bytes sites) rest
GaveSince sites (Some bytes) None lines = ⊥
GaveSince sites None (Some rest) lines = ⊥
GaveSince sites None None lines = Unit {0}

-- a session before its line `at`
pub record SessionGoing (net : Net) (sites : Sites) (begun : Books) (at : ℕ) (blocks : Open) (timed : Bool) (hand : Hand) (coming now before after : Option (List ℕ)) (turns_before turns_after : Option (List Turn)) (moments_before moments_after : Option (List (List ℕ))) : Type 0 where
  pub exchanges : List Exchange
  pub count : length (heard_in exchanges) + 1 ≡ at
  pub open_is : blocks ≡ open_behind net sites 1 [] (came_in exchanges)
  pub timed_is : timed ≡ timed_after net sites 1 [] false (came_in exchanges)
  pub gave : GaveSince sites coming now (heard_in exchanges)
  pub said : SessionSaid net sites begun exchanges hand before after turns_before turns_after moments_before moments_after

-- a session whose input ended so
pub record SessionHeard (net : Net) (sites : Sites) (begun : Books) (talk : Talked) (hand : Hand) (end : InputEnd) : Type 0 where
  pub exchanges : List Exchange
  pub stops : StopsHearing sites talk (heard_in exchanges) end
  pub said : SessionSaid net sites begun exchanges hand talk.output.before talk.output.after talk.turns_before talk.turns_after talk.moments_before talk.moments_after

-- how a session ended, from a book on, and the world in which it did
pub record SessionEnded (net : Net) (sites : Sites) (talk : Talked) (begun : Books) (left : Left) (status : ℕ) : Type 0 where
  pub world : IsSpelledWorld (opening_on net begun.state.changes) (reverse left.events)
  pub ends : SessionEndsFrom net sites talk (record { before = begun.told; after = left.told; faults_before = begun.faults; faults_after = left.faults }) begun.state.changes status left.histories left.events
