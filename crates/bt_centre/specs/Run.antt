-- The run of a script: what the desks, the planner and the centre's worker ask, what happens on the air, what the store keeps, and
-- what is printed.
use Rattle.std.specs.Prelude.{◌≡◌, ◌≢◌, ◌⊎◌, ℕ, ◌+◌, ◌<◌, ◌≤◌, ◌^◌, ◌++◌, if◌then◌else◌, Bool, true, false, List, [], ◌∷◌, length, map, reverse, All, AllPairs, Contains, Option, Some, IfSome}
use Rattle.std.specs.List.{HoldsAt, flat_map, list_any}
use Rattle.std.specs.Option.{is_some}
use Rattle.bt_outside.specs.Told.{GainsPrefix, gained}
use Rattle.bt_net.specs.Network.{Net}
use Rattle.bt_air.specs.declared.event.Event.{Event}
use Rattle.bt_air.specs.declared.order.Order.{Order}
use Rattle.bt_script.specs.declared.sites.Sites.{Sites}
use Rattle.bt_script.specs.declared.sites.Sites.TheVariants.{Together}
use Rattle.bt_demand.specs.declared.burst.Burst.{Burst}
use Rattle.bt_site.specs.Air.{IsAir, IsSafe, modes_in_front}
use Rattle.bt_site.specs.Event.{Frame, Opening}
use Rattle.bt_world.specs.Life.{opening_of}
use Rattle.bt_site.specs.World.{log}
use Rattle.bt_journal.specs.declared.call.Change.{Change}
use Rattle.bt_journal.specs.declared.entry.Entry.{Entry}
use Rattle.bt_journal.specs.Journal.{calls_of, changes_of}
use Rattle.bt_history.specs.declared.fault.RecoverFault.{RecoverFault}
use Rattle.bt_history.specs.declared.fault.RecoverFault.TheVariants.{OutOfMemory, StoreFault}
use Rattle.bt_history.specs.Causes.{Follows, IsGoodForItsEdition}
use Rattle.bt_history.specs.Changes.{edition, installs, newest, orders, plans}
use Rattle.bt_history.specs.Machine.{Legal, State, bytes_of, state_after}
use Rattle.bt_history.specs.Recovery.{IsReadable, IsRecoverFault, MaybeRecovered, Recovered}
use Rattle.bt_history.specs.Store.{IsKept, IsNextOpening, RoseBy, is_lost, lost_of}
use Rattle.bt_script.specs.declared.script.Item.{Item}
use Rattle.bt_script.specs.declared.script.Item.TheVariants as item
use Rattle.bt_script.specs.declared.script.Round.{Round}
use Rattle.bt_script.specs.declared.script.Script.{Script}
use Rattle.bt_timeline.specs.Timeline.{restart_line, round_line}
use Rattle.bt_centre.specs.declared.history.History.{History}
use Rattle.bt_round.specs.AirLines.{AirState, PlaysAirLines, back_of, events_in, hearing, mark_of, opening_in, orders_in, restarting, start_air, wanted_in}
use Rattle.bt_round.specs.Desks.{Sight, IsNotOlder, asked_by, desks_text, shown_to, shows_of}
use Rattle.bt_round.specs.Planning.{PlaysPlans, planner_text}
use Rattle.bt_centre.specs.Lines.{begin_lines, total_of}
use Rattle.bt_report.specs.declared.status.TheConstants.{DONE, STORE_FAILED, WRITE_FAILED}
use Rattle.bt_report.specs.Output.{Output, HasFailed}
use Rattle.bt_centre.specs.RecoverFaults.{PrintsFault}
use Rattle.bt_report.specs.Stored.{Stored}
use Rattle.bt_centre.specs.World.{IsSpelledWorld}

-- How far a run has come. A time of a run is what lies between two starts of the centre: the histories of the times that are over,
-- the changes with which the present one began, the entries of its calls, the air, the rounds so far, and what the desks were shown
-- in this time.
pub record Stand : Type 0 where
  pub over : List History
  pub opening : List Change
  pub history : List Entry
  pub air : AirState
  pub rounds : ℕ
  pub sights : List Sight

-- the changes made so far
abbrev pub changes_at : Stand → List Change
changes_at stand = stand.opening ++ changes_of stand.history

-- the state of the book: those changes, and whether a fault of the store has stopped it in this time
abbrev pub state_at : Stand → State
state_at stand = state_after stand.opening stand.history

-- the history of the present time
abbrev pub history_at : Stand → History
history_at stand = record { before = length stand.opening; entries = stand.history }

-- the histories of all times, in order
abbrev pub histories_at : Stand → List History
histories_at stand = stand.over ++ history_at stand ∷ []

-- The changes with which a time begins behind one that began with these and had these entries: over a store that tells its bytes, those
-- made so far, or these and the one that the store lost. Nothing is said of them over another store.
abbrev pub IsNextTime : (tells : Bool) → List Change → List Entry → List Change → Type 0
IsNextTime true opening history next = IsNextOpening (opening ++ changes_of history) (lost_of history) next
IsNextTime false opening history next = Unit {0}

-- the changes have one order more than the world, and the last of them is the one that the centre wanted
pub record IsJoining (air : AirState) (next : List Change) : Type 0 where
  pub order : Order
  pub asked : wanted_in air ≡ Some order
  pub more : length (orders next) ≡ length (orders_in air) + 1
  pub last : HoldsAt (λ (one : Order). one ≡ order) (orders next) (length (orders_in air))

-- The order that the centre wanted joins the others at a restart exactly where the changes then have one order more than the world, and
-- that is the one that it wanted.
abbrev pub JoinsOrder : AirState → List Change → Bool → Type 0
JoinsOrder air next true = IsJoining air next
JoinsOrder air next false = ¬ (IsJoining air next)

-- A plan shown in a round is one of those installed at its end, and no older than the newest at its start.
pub record IsSeen (before after : Stand) (sight : Sight) : Type 0 where
  pub installed : Contains (plans (changes_at after)) sight.plan
  pub fresh : (newest (changes_at before)).edition.0 ≤ sight.plan.edition.0

-- A round: of each desk its edits are asked, each once and in order; of the planner and of the centre's worker what their lines
-- ask; and nobody else asks anything.
pub record PlaysRound (net : Net) (before : Stand) (round : Round) (text : List ℕ) (after : Stand) : Type 0 where
  pub entries : List Entry
  pub sights : List Sight
  pub air_text : List ℕ
  pub desks : (caller : ℕ) → 1 < caller → map (λ entry. entry.call) (calls_of entries caller) ≡ asked_by caller round.desks
  pub planner : PlaysPlans net round.plans (calls_of entries 1)
  pub centre : PlaysAirLines net before.air round.air (calls_of entries 0) air_text after.air
  pub kept : after.history ≡ before.history ++ entries
  pub opening : after.opening ≡ before.opening
  pub over : after.over ≡ before.over
  pub counted : after.rounds ≡ before.rounds + 1
  pub seen : All (IsSeen before after) sights
  pub shown : (desk : ℕ) → length (shown_to desk sights) ≡ length (shows_of desk round.desks)
  pub later : after.sights ≡ before.sights ++ sights
  pub ascend : AllPairs IsNotOlder after.sights
  pub printed : text ≡ round_line after.rounds ++ (desks_text net round.desks entries sights ++ planner_text net (calls_of entries 1) ++ air_text)

-- the changes are few: four bytes hold the edition that they make, and count the bytes of their lines
pub record AreFew (net : Net) (changes : List Change) : Type 0 where
  pub edition : edition changes < 2 ^ 32
  pub bytes : bytes_of net changes < 2 ^ 32

-- The centre restarts with the changes that its store tells: those made so far, or these and the one that the store lost. The history
-- of the time that is over was legal, and the changes with which the next begins follow one another and are few. The centre forgets
-- what it heard, and the edition to which it went back, but with sites apart it goes back where the orders that the store tells do; the
-- order that it wanted joins the others where the store tells it, and is forgotten else. What is on its way stays on its way, the
-- standby keeps what it keeps, and the desks' shows begin anew.
pub record PlaysRestart (net : Net) (tells : Bool) (before : Stand) (text : List ℕ) (after : Stand) : Type 0 where
  pub kept : Bool
  pub joins : JoinsOrder before.air after.opening kept
  pub air : after.air ≡ restarting before.air kept (reverse (orders after.opening))
  pub next : IsNextTime tells before.opening before.history after.opening
  pub legal : Legal net before.opening before.history
  pub follow : Follows net after.opening
  pub few : AreFew net after.opening
  pub over : after.over ≡ histories_at before
  pub none : after.history ≡ []
  pub counted : after.rounds ≡ before.rounds
  pub unseen : after.sights ≡ []
  pub printed : text ≡ restart_line ++ begin_lines after.opening (mark_of before.air) (back_of after.air)

-- A part of a script, over a store that tells its bytes or does not. Where the centre hears a line of the bus, nothing is asked and
-- nothing is printed.
abbrev pub PlaysItem : Net → (tells : Bool) → Stand → Item → List ℕ → Stand → Type 0
PlaysItem net tells before (item.Round round) text after = PlaysRound net before round text after
PlaysItem net tells before item.Restart text after = PlaysRestart net tells before text after
PlaysItem net tells before (item.Heard line) text after = (text ≡ []) × (after ≡ record before { air = hearing before.air line })

-- parts of a script one after the other
abbrev pub PlaysItems : Net → (tells : Bool) → Stand → List Item → List ℕ → Stand → Type 0
PlaysItems net tells before [] text after = (text ≡ []) × (after ≡ before)
PlaysItems net tells before (first ∷ items) text after =
    (between : Stand) × (own : List ℕ) × (others : List ℕ) × PlaysItem net tells before first own between × PlaysItems net tells between items others after × (text ≡ own ++ others)

-- a legal history on the network, which began with these changes and counts them; they could be made one after the other
pub record IsLegalHistory (net : Net) (opening : List Change) (history : History) : Type 0 where
  pub counted : history.before ≡ length opening
  pub follow : Follows net opening
  pub legal : Legal net opening history.entries

-- times one after the other, the first of which began with these changes: each has a legal history, and the next begins with the
-- changes that the store tells; and those with which the time after them begins
abbrev pub AreTimes : Net → (tells : Bool) → List Change → List History → List Change → Type 0
AreTimes net tells opening [] last = last ≡ opening
AreTimes net tells opening (history ∷ histories) last =
    IsLegalHistory net opening history × ((next : List Change) × IsNextTime tells opening history.entries next × AreTimes net tells next histories last)

-- each time has a legal history, the first from these changes on, and the last from those
pub record AreLegalTimes (net : Net) (tells : Bool) (first last : List Change) (histories : List History) : Type 0 where
  pub over : List History
  pub present : History
  pub all : histories ≡ over ++ present ∷ []
  pub times : AreTimes net tells first over last
  pub legal : IsLegalHistory net last present

-- a world of the network opens with the plans that these changes installed and the orders that they placed
abbrev pub opening_on : Net → List Change → Opening
opening_on net changes = opening_of net (plans changes) (orders changes)

-- a run begins with these changes, and an air that opens with them
abbrev pub at_start : Net → Sites → List Change → Stand
at_start net sites opening = record {
  over = [];
  opening = opening;
  history = [];
  air = start_air sites (opening_on net opening);
  rounds = 0;
  sights = [];
}

-- the first line of a run that begins with these changes, and behind it that of the edition to which the centre goes back, if it does
abbrev pub first_line : Net → Sites → List Change → List ℕ
first_line net sites opening = begin_lines opening (mark_of (at_start net sites opening).air) (back_of (at_start net sites opening).air)

-- Each frame of these events, the latest of them first, is safe: no two of its bursts meet at a beam, and the plan in front has
-- a mode that makes the connection of each.
abbrev pub FramesAreSafe : Opening → List Event → Type 0
FramesAreSafe opening events = (later earlier : List Event) (bursts : List Burst) → events ≡ later ++ Frame ∷ earlier
    → IsAir opening (log opening earlier) bursts → IsSafe opening.net (modes_in_front opening (log opening earlier)) bursts

-- each plan that these changes install carries exactly the demand of its edition, in the least length
abbrev pub PlansAreGood : Net → List Change → Type 0
PlansAreGood net changes = All (IsGoodForItsEdition net changes) (installs changes)

-- all entries of these histories, in order
abbrev pub entries_of : List History → List Entry
entries_of histories = flat_map (λ (history : History). history.entries) histories

-- the changes that the store lost, at most one in each time
abbrev pub lost_in : List History → List Change
lost_in histories = lost_of (entries_of histories)

-- the store failed over a change in one of these histories
abbrev pub has_lost : List History → Bool
has_lost histories = list_any (λ (history : History). list_any (λ (entry : Entry). is_lost entry.reply) history.entries) histories

-- the status of a run with these histories that came to its end
abbrev pub status_after : List History → ℕ
status_after histories = if has_lost histories then STORE_FAILED else DONE

-- A run of these parts of a script, from these changes on, where the sites are so: by these histories, one for each time, and these events
-- each part is played, each installed plan is good, and the lines are just those of these histories and of these events.
pub record IsRun (net : Net) (sites : Sites) (tells : Bool) (opening : List Change) (items : List Item) (histories : List History) (events : List Event) (lines : List ℕ) : Type 0 where
  pub end : Stand
  pub played : PlaysItems net tells (at_start net sites opening) items lines end
  pub history : histories ≡ histories_at end
  pub legal : AreLegalTimes net tells opening end.opening histories
  pub events_are : events ≡ events_in end.air
  pub opened : opening_in end.air ≡ opening_on net opening
  pub good : PlansAreGood net (changes_at end)

-- a run with all its lines: the first, those of its parts, and the last, which counts the edits of all times
abbrev pub whole_text : Net → List Change → List ℕ → List History → List ℕ
whole_text net opening lines histories = first_line net Together opening ++ lines ++ total_of (entries_of histories)

-- The store is left with the lines of the changes of the last time, and behind them a first part of the line of the change that it
-- lost in that time, where it lost one. Its count of faults rose by as many changes at least as it lost in all times, or stands at its end.
pub record LeavesStore (net : Net) (stored : Stored) (histories : List History) (end : Stand) : Type 0 where
  pub bytes : IsKept net stored.after (changes_at end) (lost_of end.history)
  pub count : RoseBy (length (lost_in histories)) stored.faults_before stored.faults_after

-- the changes are those that the store told when the run began, in no more bytes than are read
pub record IsOpening (net : Net) (stored : Stored) (opening : List Change) : Type 0 where
  pub told : IfSome stored.before (λ bytes. Recovered net bytes opening)
  pub readable : IsReadable stored.before
  pub follow : Follows net opening
  pub few : AreFew net opening

-- nothing was run
pub record RunsNone (stored : Stored) (histories : List History) (events : List Event) : Type 0 where
  pub none : histories ≡ []
  pub quiet : events ≡ []
  pub later : stored.faults_before ≤ stored.faults_after

-- memory ran out before anything was run: the store is as it was, or as a recovery left it
pub record BreaksEarly (net : Net) (stored : Stored) (status : ℕ) (histories : List History) (events : List Event) : Type 0 where
  pub none : RunsNone stored histories events
  pub bytes : MaybeRecovered net stored.before stored.after stored.faults_before stored.faults_after
  pub status_is : status ≡ 1

-- the first recovery failed: nothing was run, and its fault was printed
pub record RunsNothing (net : Net) (output : Output) (stored : Stored) (status : ℕ) (histories : List History) (events : List Event) : Type 0 where
  pub fault : RecoverFault
  pub failed : IsRecoverFault net stored.before stored.after stored.faults_before stored.faults_after fault
  pub named : fault ≢ OutOfMemory
  pub none : RunsNone stored histories events
  pub printed : PrintsFault output [] fault status

-- Memory ran out: what was asked and answered in each time is legal. The store told the lines of the changes of the last time, and behind
-- them a first part of the line of the change that it lost in that time, where it lost one; its count of faults was this then, and had
-- risen by as many changes at least as it lost, or stood at its end. It tells that, or what the recovery at a restart made of it.
pub record BreaksOff (net : Net) (stored : Stored) (opening : List Change) (status : ℕ) (histories : List History) : Type 0 where
  pub last : List Change
  pub legal : AreLegalTimes net (is_some stored.before) opening last histories
  pub over : List History
  pub entries : List Entry
  pub all : histories ≡ over ++ record { before = length last; entries = entries } ∷ []
  pub told : Option (List ℕ)
  pub faults : ℕ
  pub kept : IsKept net told (last ++ changes_of entries) (lost_of entries)
  pub count : RoseBy (length (lost_in histories)) stored.faults_before faults
  pub later : faults ≤ stored.faults_after
  pub bytes : MaybeRecovered net told stored.after faults stored.faults_after
  pub status_is : status ≡ 1

-- the script was run, and its text written; the status says whether the store lost a change
pub record RunsWhole (net : Net) (items : List Item) (output : Output) (stored : Stored) (opening : List Change) (status : ℕ) (histories : List History) (events : List Event) : Type 0 where
  pub lines : List ℕ
  pub run : IsRun net Together (is_some stored.before) opening items histories events lines
  pub left : LeavesStore net stored histories run.end
  pub written : output.after ≡ gained output.before (whole_text net opening lines histories)
  pub status_is : status ≡ status_after histories

-- the first line was written, then the whole text of the parts that were run but for the last of them, and then a first part of its text
pub record WritesLast (net : Net) (tells : Bool) (opening : List Change) (items : List Item) (output : Output) (lines : List ℕ) (end : Stand) : Type 0 where
  pub whole : List Item
  pub last : Item
  pub parts : items ≡ whole ++ last ∷ []
  pub said : List ℕ
  pub own : List ℕ
  pub lines_are : lines ≡ said ++ own
  pub before : Stand
  pub played : PlaysItems net tells (at_start net Together opening) whole said before
  pub goes : PlaysItem net tells before last own end
  pub written : GainsPrefix (gained output.before (first_line net Together opening ++ said)) own output.after

-- What was written where the sink failed: a first part of the first line, before any part was run; or all but for the text of the last
-- part that was run; or, where no part is left, the text of all and a first part of the last line.
abbrev pub WritesPart : Net → (tells : Bool) → List Change → (first more : List Item) → Output → List ℕ → List History → Stand → Type 0
WritesPart net tells opening first more output lines histories end =
    ((first ≡ []) × GainsPrefix output.before (first_line net Together opening) output.after)
    ⊎ WritesLast net tells opening first output lines end
    ⊎ ((more ≡ []) × GainsPrefix (gained output.before (first_line net Together opening ++ lines)) (total_of (entries_of histories)) output.after)

-- the sink failed over the text of a part, or over the first or the last line: the parts up to that one were run, and what was to be
-- written before it was written whole
pub record RunsPartly (net : Net) (items : List Item) (output : Output) (stored : Stored) (opening : List Change) (status : ℕ) (histories : List History) (events : List Event) : Type 0 where
  pub first : List Item
  pub more : List Item
  pub lines : List ℕ
  pub parts : items ≡ first ++ more
  pub run : IsRun net Together (is_some stored.before) opening first histories events lines
  pub left : LeavesStore net stored histories run.end
  pub failed : HasFailed output
  pub written : WritesPart net (is_some stored.before) opening first more output lines histories run.end
  pub status_is : status ≡ WRITE_FAILED

-- The recovery at a restart failed: the parts before it were run, and their text was written without the last line, then the line
-- `restart`, then that of the fault. The store told these bytes before that recovery, and its count of faults was this. A store that
-- tells its bytes can only have failed.
pub record RunsToRestart (net : Net) (items : List Item) (output : Output) (stored : Stored) (opening : List Change) (status : ℕ) (histories : List History) (events : List Event) : Type 0 where
  pub first : List Item
  pub more : List Item
  pub lines : List ℕ
  pub parts : items ≡ first ++ item.Restart ∷ more
  pub run : IsRun net Together (is_some stored.before) opening first histories events lines
  pub told : Option (List ℕ)
  pub faults : ℕ
  pub left : LeavesStore net (record stored { after = told; faults_after = faults }) histories run.end
  pub fault : RecoverFault
  pub failed : IsRecoverFault net told stored.after faults stored.faults_after fault
  pub later : faults ≤ stored.faults_after
  pub named : fault ≢ OutOfMemory
  pub only : IfSome stored.before (λ _. fault ≡ StoreFault)
  pub printed : PrintsFault output (first_line net Together opening ++ lines ++ restart_line) fault status

-- how the parts of a script end, from these changes on: memory ran out, or they were run to their end, up to a text that could not be
-- written, or up to a restart at which the changes could not be recovered again
abbrev pub EndsFrom : Net → List Item → Output → Stored → List Change → ℕ → List History → List Event → Type 0
EndsFrom net items output stored opening status histories events =
    BreaksOff net stored opening status histories
    ⊎ RunsWhole net items output stored opening status histories events
    ⊎ RunsPartly net items output stored opening status histories events
    ⊎ RunsToRestart net items output stored opening status histories events

-- the store's changes were recovered, what happened on the air from then on is a world, and each of its frames is safe; and so the
-- parts of the script ended
pub record RunsFrom (net : Net) (script : Script) (output : Output) (stored : Stored) (status : ℕ) (histories : List History) (events : List Event) : Type 0 where
  pub opening : List Change
  pub opens : IsOpening net stored opening
  pub world : IsSpelledWorld (opening_on net opening) (reverse events)
  pub safe : FramesAreSafe (opening_on net opening) (reverse events)
  pub ends : EndsFrom net script.items output stored opening status histories events

-- how a run ends: memory ran out early; or the store's changes could not be recovered; or they were, and the script was run from them on
abbrev pub RunsTo : Net → Script → Output → Stored → ℕ → List History → List Event → Type 0
RunsTo net script output stored status histories events =
    BreaksEarly net stored status histories events
    ⊎ RunsNothing net output stored status histories events
    ⊎ RunsFrom net script output stored status histories events
