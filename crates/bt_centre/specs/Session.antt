-- A session: a run whose parts are asked by lines that come one by one. Each is played and answered before the next is heard.
use Rattle.std.specs.Prelude.{◌≡◌, ◌≢◌, ◌⊎◌, ℕ, ◌+◌, ◌≤◌, ◌++◌, Bool, false, List, [], ◌∷◌, length, map, reverse, Option, Some, None, IfSome, if◌then◌else◌}
use Rattle.std.specs.Option.{is_some}
use Rattle.bt_outside.specs.Told.{Rose}
use Rattle.bt_outside.specs.Input.{given_by}
use Rattle.bt_outside.specs.Talk.{Shown, Turn, Heard, Said, took}
use Rattle.bt_net.specs.Network.{Net}
use Rattle.bt_script.specs.declared.sites.Sites.{Sites}
use Rattle.bt_air.specs.declared.event.Event.{Event}
use Rattle.bt_journal.specs.declared.call.Change.{Change}
use Rattle.bt_history.specs.Crash.{Last}
use Rattle.bt_history.specs.declared.fault.RecoverFault.{RecoverFault}
use Rattle.bt_history.specs.declared.fault.RecoverFault.TheVariants.{OutOfMemory, StoreFault}
use Rattle.bt_history.specs.Recovery.{IsRecoverFault}
use Rattle.bt_history.specs.Store.{IsKept, lost_of}
use Rattle.bt_journal.specs.declared.entry.Entry.{Entry}
use Rattle.bt_script.specs.declared.line.ScriptLine.{ScriptLine}
use Rattle.bt_script.specs.declared.script.Item.{Item}
use Rattle.bt_script.specs.declared.script.Item.TheVariants as item
use Rattle.bt_talk.specs.declared.block.Step.{Step}
use Rattle.bt_talk.specs.declared.block.Step.TheVariants as step
use Rattle.bt_talk.specs.Answers.{answer_of, input_fault_line, ready_line}
use Rattle.bt_talk.specs.Asked.{Came, rounds_in_turn, row_behind, timed_behind}
use Rattle.bt_talk.specs.Blocks.{Open, line_bytes, row_of}
use Rattle.bt_talk.specs.Clock.{TicksAll}
use Rattle.bt_timeline.specs.Timeline.{restart_line}
use Rattle.bt_report.specs.declared.status.TheConstants.{DONE, READ_FAILED, STORE_FAILED, WRITE_FAILED}
use Rattle.bt_report.specs.Stored.{Stored}
use Rattle.bt_centre.specs.declared.history.History.{History}
use Rattle.bt_centre.specs.declared.session.InputEnd.{InputEnd}
use Rattle.bt_centre.specs.declared.session.InputEnd.TheVariants as ending
use Rattle.bt_centre.specs.declared.session.TheConstants.{MOST_HEARD}
use Rattle.bt_round.specs.Trial.{AllTried}
use Rattle.bt_centre.specs.Lines.{total_of}
use Rattle.bt_centre.specs.RecoverFaults.{recover_line, recover_status}
use Rattle.bt_centre.specs.Run.{BreaksEarly, BreaksOff, FramesAreSafe, IsOpening, IsRun, LeavesStore, PlaysItem, PlaysItems, RunsNone, Stand, at_start, changes_at, entries_of, first_line, has_lost, opening_on, state_at}
use Rattle.bt_centre.specs.Talked.{Says, SaysPart, Talked, behind}
use Rattle.bt_centre.specs.Told.{IsTold}
use Rattle.bt_centre.specs.World.{IsSpelledWorld}

-- the changes that were made when a line was heard, the line, or None where what came is no line, what the clock told, where it was asked,
-- the piece that was said to the line, and what the store told then
pub record Exchange : Type 0 where
  pub known : List Change
  pub line : Option (List ℕ)
  pub told : Option (List ℕ)
  pub piece : List ℕ
  pub shown : Shown

-- the lines that were heard
abbrev pub heard_in : List Exchange → List (Option (List ℕ))
heard_in exchanges = map (λ (one : Exchange). one.line) exchanges

-- the lines, with the changes that were made when they were heard
abbrev pub came_in : List Exchange → List Came
came_in exchanges = map (λ (one : Exchange). (one.known, one.line)) exchanges

-- what a clock told, where it was asked, as a list
abbrev pub told_list : Option (List ℕ) → List (List ℕ)
told_list None = []
told_list (Some told) = told ∷ []

-- what it told to exchanges
abbrev pub told_in : List Exchange → List (List ℕ)
told_in [] = []
told_in (first ∷ exchanges) = told_list first.told ++ told_in exchanges

-- the turns of exchanges: each line is heard, and its piece is said before the next is heard
abbrev pub turns_in : List Exchange → List Turn
turns_in [] = []
turns_in (first ∷ exchanges) = Heard first.line ∷ Said first.piece first.shown ∷ turns_in exchanges

-- what the store told when the last of these was said, or before them
abbrev pub shown_behind : Shown → List Exchange → Shown
shown_behind before [] = before
shown_behind before (first ∷ exchanges) = shown_behind first.shown exchanges

-- the store told the changes that were made up to there, and maybe a first part of the one that it lost
abbrev pub ShowsChanges : Net → Stand → Shown → Type 0
ShowsChanges net stand shown = IsKept net shown.told (changes_at stand) (lost_of stand.history)

-- All of a block is played, where each of its edits would be done by the book as it stands, or nothing, and the first refusal is told.
abbrev pub PlaysAll : Net → (tells : Bool) → Stand → List ScriptLine → List Item → List ℕ → Stand → Type 0
PlaysAll net tells before said parts text after =
    (AllTried net (state_at before) 1 said None × PlaysItems net tells before parts text after × (parts ≡ map item.Round (rounds_in_turn said)))
    ⊎ ((refusal : List ℕ) × AllTried net (state_at before) 1 said (Some refusal) × (text ≡ refusal) × (after ≡ before) × (parts ≡ []))

-- What a line comes to is played, which asks these parts: a part of a run, or nothing; all of a block, or nothing; or it is told, of what is
-- in hand before the line, and nothing changes.
abbrev pub PlaysStep : Net → (tells : Bool) → Stand → Step → List Item → List ℕ → Stand → Type 0
PlaysStep net tells before (step.Plays one) parts text after = PlaysItem net tells before one text after × (parts ≡ one ∷ [])
PlaysStep net tells before step.Nothing parts text after = (text ≡ []) × (after ≡ before) × (parts ≡ [])
PlaysStep net tells before (step.Fault code) parts text after = (text ≡ []) × (after ≡ before) × (parts ≡ [])
PlaysStep net tells before (step.Clock on) parts text after = (text ≡ []) × (after ≡ before) × (parts ≡ [])
PlaysStep net tells before (step.Tells one) parts text after = IsTold net (state_at before) before.air one text × (after ≡ before) × (parts ≡ [])
PlaysStep net tells before (step.All said) parts text after = PlaysAll net tells before said parts text after

-- what a line comes to, by the changes that were made when it was heard
abbrev pub row_in : Net → Sites → (at : ℕ) → Open → Exchange → Open × Step
row_in net sites at blocks one = row_of net sites at blocks one.known one.line

-- Lines one after the other, the first of them line `at`, which ask these parts: each is played, and the piece said to it is the text of
-- that with its answer behind, while the store told all changes that were made up to there. What a line comes to may depend on the changes
-- that were made before it. The changes that were made before a line last from the piece said before it, when the store told this, up to
-- its own. `timed` is whether answers say when they are given: then the clock is asked for each.
abbrev pub PlaysLines : Net → Sites → (tells : Bool) → (at : ℕ) → Open → (timed : Bool) → Stand → Shown → List Exchange → List Item → Stand → Type 0
PlaysLines net sites tells at blocks timed before shown [] parts after = (after ≡ before) × (parts ≡ [])
PlaysLines net sites tells at blocks timed before shown (first ∷ exchanges) parts after =
    (between : Stand) × (own : List ℕ) × (asked : List Item) × (others : List Item)
    × PlaysStep net tells before (row_in net sites at blocks first).1 asked own between
    × PlaysLines net sites tells (at + 1) (row_in net sites at blocks first).0 (timed_behind timed (row_in net sites at blocks first).1) between first.shown exchanges others after
    × (parts ≡ asked ++ others) × (first.known ≡ changes_at before) × (is_some first.told ≡ timed_behind timed (row_in net sites at blocks first).1)
    × (first.piece ≡ own ++ answer_of at first.line (row_in net sites at blocks first) first.told)
    × ShowsChanges net between first.shown × Last net (changes_at before) shown.crashes first.shown.crashes

-- the changes made up to there last from the last piece said, or that over which the sink or memory failed, to the end of the talk
abbrev pub LastToEnd : Net → Talked → Stand → Shown → List Exchange → Type 0
LastToEnd net talk stand start exchanges = Last net (changes_at stand) (shown_behind start exchanges).crashes talk.store.crashes

-- A session of these exchanges, from these changes on: it is a run of the parts that its lines ask, and what is said to each line is the
-- text of what it plays, with its answer behind. Answers do not say when they are given before a line asks it.
pub record IsSession (net : Net) (sites : Sites) (tells : Bool) (opening : List Change) (start : Shown) (exchanges : List Exchange) (histories : List History) (events : List Event) : Type 0 where
  pub shows : ShowsChanges net (at_start net sites opening) start
  pub parts : List Item
  pub lines : List ℕ
  pub run : IsRun net sites tells opening parts histories events lines
  pub played : PlaysLines net sites tells 1 [] false (at_start net sites opening) start exchanges parts run.end

-- the first line of a session, and that the first line may come
abbrev pub opening_text : Net → Sites → List Change → List ℕ
opening_text net sites opening = first_line net sites opening ++ ready_line 0

-- the turns of a session: that is said, and then each line is heard and answered
abbrev pub session_turns : Net → Sites → List Change → Shown → List Exchange → List Turn
session_turns net sites opening start exchanges = Said (opening_text net sites opening) start ∷ turns_in exchanges

-- what is said of the end of the input
abbrev pub input_text : InputEnd → List ℕ
input_text ending.Over = []
input_text ending.Failed = input_fault_line

-- its status
abbrev pub input_status : InputEnd → ℕ
input_status ending.Over = DONE
input_status ending.Failed = READ_FAILED

-- the last piece of a session: what is said of the end of its input, and the line that counts the edits of all times
abbrev pub closing_text : InputEnd → List History → List ℕ
closing_text end histories = input_text end ++ total_of (entries_of histories)

-- the status of a session that came to the end of its input: that the store lost a change goes before
abbrev pub status_behind : InputEnd → List History → ℕ
status_behind end histories = if has_lost histories then STORE_FAILED else input_status end

-- these are the first lines that the input gives, where its bytes are told
abbrev pub WereGiven : Sites → Talked → List (Option (List ℕ)) → Type 0
WereGiven sites talk lines = IfSome talk.coming (λ bytes. (more : List (Option (List ℕ))) × (given_by (line_bytes sites) bytes ≡ lines ++ more))

-- these are all that it gives
abbrev pub AllGiven : Sites → Talked → List (Option (List ℕ)) → Type 0
AllGiven sites talk lines = IfSome talk.coming (λ bytes. given_by (line_bytes sites) bytes ≡ lines)

-- what the clock told to these, it told first
abbrev pub WereTold : Talked → List Exchange → Type 0
WereTold talk exchanges = (more : List (List ℕ)) × TicksAll talk.moments_before (told_in exchanges ++ more) talk.moments_after

-- why no line was heard behind these: none was left, or as many were heard as are counted; or the input failed
abbrev pub StopsHearing : Sites → Talked → List (Option (List ℕ)) → InputEnd → Type 0
StopsHearing sites talk lines ending.Over = AllGiven sites talk lines ⊎ ((length lines + 1 ≡ MOST_HEARD) × WereGiven sites talk lines)
StopsHearing sites talk lines ending.Failed = Rose talk.unheard_before talk.unheard_after × WereGiven sites talk lines

-- the lines were played and answered up to the end of the input, and the last piece was said, or the sink failed over it
pub record SessionWhole (net : Net) (sites : Sites) (talk : Talked) (stored : Stored) (opening : List Change) (status : ℕ) (histories : List History) (events : List Event) : Type 0 where
  pub exchanges : List Exchange
  pub start : Shown
  pub session : IsSession net sites (is_some stored.before) opening start exchanges histories events
  pub left : LeavesStore net stored histories session.run.end
  pub lasts : LastToEnd net talk session.run.end start exchanges
  pub end : InputEnd
  pub stops : StopsHearing sites talk (heard_in exchanges) end
  pub timed : WereTold talk exchanges
  pub said : Says (behind talk (session_turns net sites opening start exchanges)) (closing_text end histories) (status_behind end histories) status

-- The sink failed over the last of these turns, which is the first piece of the session or what was to be said to the last of its lines.
-- That line was played; the turns before were taken, and no other.
pub record SessionUnsaid (net : Net) (sites : Sites) (talk : Talked) (stored : Stored) (opening : List Change) (status : ℕ) (histories : List History) (events : List Event) : Type 0 where
  pub exchanges : List Exchange
  pub start : Shown
  pub session : IsSession net sites (is_some stored.before) opening start exchanges histories events
  pub left : LeavesStore net stored histories session.run.end
  pub lasts : LastToEnd net talk session.run.end start exchanges
  pub given : WereGiven sites talk (heard_in exchanges)
  pub timed : WereTold talk exchanges
  pub turns : List Turn
  pub piece : List ℕ
  pub shown : Shown
  pub last : session_turns net sites opening start exchanges ≡ turns ++ Said piece shown ∷ []
  pub part : SaysPart (behind talk turns) piece
  pub status_is : status ≡ WRITE_FAILED

-- The recovery at a restart failed: the lines before the one that asked it were played and answered, that one was heard, and the line
-- `restart` was said to it with that of the fault behind, or the sink failed over it. The store told these bytes before that recovery,
-- and its count of faults was this. A store that tells its bytes can only have failed.
pub record SessionToRestart (net : Net) (sites : Sites) (talk : Talked) (stored : Stored) (opening : List Change) (status : ℕ) (histories : List History) (events : List Event) : Type 0 where
  pub exchanges : List Exchange
  pub last : Came
  pub start : Shown
  pub session : IsSession net sites (is_some stored.before) opening start exchanges histories events
  pub asked : (row_behind net sites (came_in exchanges) last).1 ≡ step.Plays item.Restart
  pub known : last.0 ≡ changes_at session.run.end
  pub given : WereGiven sites talk (heard_in exchanges ++ last.1 ∷ [])
  pub timed : WereTold talk exchanges
  pub told : Option (List ℕ)
  pub faults : ℕ
  pub left : LeavesStore net (record stored { after = told; faults_after = faults }) histories session.run.end
  pub lasts : LastToEnd net talk session.run.end start exchanges
  pub fault : RecoverFault
  pub failed : IsRecoverFault net told stored.after faults stored.faults_after fault
  pub later : faults ≤ stored.faults_after
  pub named : fault ≢ OutOfMemory
  pub only : IfSome stored.before (λ _. fault ≡ StoreFault)
  pub said : Says (behind talk (session_turns net sites opening start exchanges ++ Heard last.1 ∷ [])) (restart_line ++ recover_line fault) (recover_status fault) status

-- the turns that were taken where memory ran out: those of these exchanges; or one more line was heard; or all but the last of them, a
-- piece that was not said
abbrev pub StopsTurns : Net → Sites → List Change → Shown → List Exchange → List Turn → Type 0
StopsTurns net sites opening start exchanges turns =
    (turns ≡ session_turns net sites opening start exchanges) ⊎ ((last : Option (List ℕ)) × (turns ≡ session_turns net sites opening start exchanges ++ Heard last ∷ []))
    ⊎ ((piece : List ℕ) × (shown : Shown) × (session_turns net sites opening start exchanges ≡ turns ++ Said piece shown ∷ []))

-- these histories go on from there, in the same time
abbrev pub GoesOnFrom : Stand → List History → Type 0
GoesOnFrom stand histories = (more : List Entry) × (histories ≡ stand.over ++ record { before = length stand.opening; entries = stand.history ++ more } ∷ [])

-- Memory ran out. What was asked and answered goes on from these exchanges, each of which was played, and said while the store told all
-- changes that were made up to there; no other turn was taken, but for a line that was not answered.
pub record SessionBreaksOff (net : Net) (sites : Sites) (talk : Talked) (stored : Stored) (opening : List Change) (status : ℕ) (histories : List History) : Type 0 where
  pub off : BreaksOff net stored opening status histories
  pub exchanges : List Exchange
  pub start : Shown
  pub shows : ShowsChanges net (at_start net sites opening) start
  pub parts : List Item
  pub stand : Stand
  pub played : PlaysLines net sites (is_some stored.before) 1 [] false (at_start net sites opening) start exchanges parts stand
  pub timed : WereTold talk exchanges
  pub lasts : LastToEnd net talk stand start exchanges
  pub goes : GoesOnFrom stand histories
  pub turns : List Turn
  pub stops : StopsTurns net sites opening start exchanges turns
  pub taken : talk.turns_after ≡ took talk.turns_before turns

-- how a session ends, from these changes on: memory ran out, or its lines were played to the end of the input, up to a piece that could
-- not be said, or up to a restart at which the changes could not be recovered again
abbrev pub SessionEndsFrom : Net → Sites → Talked → Stored → List Change → ℕ → List History → List Event → Type 0
SessionEndsFrom net sites talk stored opening status histories events =
    SessionBreaksOff net sites talk stored opening status histories
    ⊎ SessionWhole net sites talk stored opening status histories events
    ⊎ SessionUnsaid net sites talk stored opening status histories events
    ⊎ SessionToRestart net sites talk stored opening status histories events

-- the store's changes were recovered, what happened on the air from then on is a world, and each of its frames is safe; and so the
-- session ended
pub record SessionFrom (net : Net) (sites : Sites) (talk : Talked) (stored : Stored) (status : ℕ) (histories : List History) (events : List Event) : Type 0 where
  pub opening : List Change
  pub opens : IsOpening net stored opening
  pub world : IsSpelledWorld (opening_on net opening) (reverse events)
  pub safe : FramesAreSafe (opening_on net opening) (reverse events)
  pub ends : SessionEndsFrom net sites talk stored opening status histories events

-- the first recovery failed: nothing was played and no line was heard; its fault was said, or the sink failed over it
pub record SessionNothing (net : Net) (talk : Talked) (stored : Stored) (status : ℕ) (histories : List History) (events : List Event) : Type 0 where
  pub fault : RecoverFault
  pub failed : IsRecoverFault net stored.before stored.after stored.faults_before stored.faults_after fault
  pub named : fault ≢ OutOfMemory
  pub none : RunsNone stored histories events
  pub said : Says talk (recover_line fault) (recover_status fault) status

-- how a session ends: memory ran out early; or the store's changes could not be recovered; or they were, and it went on from them
abbrev pub SessionTo : Net → Sites → Talked → Stored → ℕ → List History → List Event → Type 0
SessionTo net sites talk stored status histories events =
    BreaksEarly net stored status histories events
    ⊎ SessionNothing net talk stored status histories events
    ⊎ SessionFrom net sites talk stored status histories events
