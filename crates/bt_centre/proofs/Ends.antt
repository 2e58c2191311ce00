-- How a run ends, from how its parts ended behind the recovery.
use Rattle.std.proofs.Common.{◌≡◌, ℕ, ◌≤◌, Bool, inl, inr, List, [], ◌∷◌, ◌++◌, length, reverse, Option, ap, ◌∙◌, subst}
use Rattle.std.specs.Prelude.{IfSome, option_map}
use Rattle.std.specs.Option.{is_some}
use Rattle.bt_net.specs.Network.{Net}
use Rattle.bt_script.specs.declared.sites.Sites.{Sites}
use Rattle.bt_script.specs.declared.sites.Sites.TheVariants.{Together}
use Rattle.bt_air.specs.declared.event.Event.{Event}
use Rattle.bt_demand.specs.declared.burst.Burst.{Burst}
use Rattle.bt_journal.specs.declared.call.Change.{Change}
use Rattle.bt_history.specs.declared.fault.RecoverFault.{RecoverFault}
use Rattle.bt_history.specs.declared.fault.RecoverFault.TheVariants.{StoreFault}
use Rattle.bt_history.specs.Recovery.{IsReadable, Recovered, marked}
use Rattle.bt_site.specs.Air.{AreFlyable, IsAir, IsSafe, modes_in_front}
use Rattle.bt_site.specs.Event.{Frame, Opening}
use Rattle.bt_site.specs.Fits.{IsWorld}
use Rattle.bt_site.specs.World.{log}
use Rattle.bt_script.specs.declared.script.Item.{Item}
use Rattle.bt_script.specs.declared.script.Script.{Script}
use Rattle.bt_centre.specs.declared.history.History.{History}
use Rattle.bt_report.specs.Output.{Output}
use Rattle.bt_centre.specs.Progress.{Hand, IsBegun, IsOpenFault, Left, PartsEnded}
use Rattle.bt_centre.specs.RecoverFaults.{PrintsNamed}
use Rattle.bt_centre.specs.Run.{AreFew, AreLegalTimes, EndsFrom, FramesAreSafe, IsRun, LeavesStore, PlaysItems, RunsFrom, RunsTo, Stand, WritesPart, at_start, lost_in, opening_on}
use Rattle.bt_report.specs.Stored.{Stored}
use Rattle.bt_centre.proofs.Ended.{only_fault}
use Rattle.bt_centre.proofs.Restarts.{left_unopened, named_fault, tells_marked}
use Rattle.bt_centre.proofs.Times.{rose_since}

-- what happened before an event of a world is a world
world_before : (opening : Opening) (later : List Event) (event : Event) (earlier : List Event) → IsWorld opening (later ++ event ∷ earlier) → IsWorld opening earlier
world_before opening [] event earlier world = world.1
world_before opening (last ∷ later) event earlier world = world_before opening later event earlier world.1

-- the frames of a world can be flown, and are safe then
abbrev pub AreFlown : Type 0
AreFlown = (opening : Opening) (events : List Event) → IsWorld opening events → AreFlyable opening events

abbrev pub AreSafe : Type 0
AreSafe = (opening : Opening) (events : List Event) (bursts : List Burst) → AreFlyable opening events → IsAir opening (log opening events) bursts
    → IsSafe opening.net (modes_in_front opening (log opening events)) bursts

-- each frame of a world is safe
pub frames_safe : AreFlown → AreSafe → (opening : Opening) (events : List Event) → IsWorld opening events → FramesAreSafe opening events
frames_safe flown safe opening events world =
    λ later earlier bursts is air. safe opening earlier bursts (flown opening earlier (world_before opening later Frame earlier (subst (IsWorld opening) is world))) air

-- what a store tells and counts, from a moment before
abbrev pub stored_from : Option (List ℕ) → Option (List ℕ) → ℕ → ℕ → Stored
stored_from before after faults now = record { before = before; after = after; faults_before = faults; faults_after = now }

-- the store is left so from an earlier moment too
pub leaves_from : (net : Net) (told given after : Option (List ℕ)) (faults begun now : ℕ) (histories : List History) (end : Stand) → faults ≤ begun
    → LeavesStore net (stored_from told after begun now) histories end → LeavesStore net (stored_from given after faults now) histories end
leaves_from net told given after faults begun now histories end later left = record { bytes = left.bytes; count = rose_since (length (lost_in histories)) faults begun now later left.count }

-- a run over a store is one over another that tells its bytes where that one does
unfoldable pub run_over : (net : Net) (sites : Sites) (tells other : Bool) (opening : List Change) (items : List Item) (histories : List History) (events : List Event) (lines : List ℕ) → tells ≡ other
    → IsRun net sites tells opening items histories events lines → IsRun net sites other opening items histories events lines
run_over net sites tells other opening items histories events lines same run = record {
  end = run.end;
  played = subst (λ (b : Bool). PlaysItems net b (at_start net sites opening) items lines run.end) same run.played;
  history = run.history;
  legal = subst (λ (b : Bool). AreLegalTimes net b opening run.end.opening histories) same run.legal;
  events_are = run.events_are;
  opened = run.opened;
  good = run.good;
}

-- the store told bytes before the recovery as behind it, or not, and its count of faults did not fall in it
ends_from : (net : Net) (items : List Item) (output : Output) (told given after : Option (List ℕ)) (faults begun now : ℕ) (opening : List Change) (status : ℕ) (histories : List History) (events : List Event)
    → is_some told ≡ is_some given → faults ≤ begun → EndsFrom net items output (stored_from told after begun now) opening status histories events
    → EndsFrom net items output (stored_from given after faults now) opening status histories events
unfolding run_over
ends_from net items output told given after faults begun now opening status histories events tells later (inl breaks) = inl (record {
  last = breaks.last;
  legal = subst (λ (b : Bool). AreLegalTimes net b opening breaks.last histories) tells breaks.legal;
  over = breaks.over;
  entries = breaks.entries;
  all = breaks.all;
  told = breaks.told;
  faults = breaks.faults;
  kept = breaks.kept;
  count = rose_since (length (lost_in histories)) faults begun breaks.faults later breaks.count;
  later = breaks.later;
  bytes = breaks.bytes;
  status_is = breaks.status_is;
})
ends_from net items output told given after faults begun now opening status histories events tells later (inr (inl whole)) = inr (inl (record {
  lines = whole.lines;
  run = run_over net Together (is_some told) (is_some given) opening items histories events whole.lines tells whole.run;
  left = leaves_from net told given after faults begun now histories whole.run.end later whole.left;
  written = whole.written;
  status_is = whole.status_is;
}))
ends_from net items output told given after faults begun now opening status histories events tells later (inr (inr (inl part))) = inr (inr (inl (record {
  first = part.first;
  more = part.more;
  lines = part.lines;
  parts = part.parts;
  run = run_over net Together (is_some told) (is_some given) opening part.first histories events part.lines tells part.run;
  left = leaves_from net told given after faults begun now histories part.run.end later part.left;
  failed = part.failed;
  written = subst (λ (t : Bool). WritesPart net t opening part.first part.more output part.lines histories part.run.end) tells part.written;
  status_is = part.status_is;
})))
ends_from net items output told given after faults begun now opening status histories events tells later (inr (inr (inr fails))) = inr (inr (inr (record {
  first = fails.first;
  more = fails.more;
  lines = fails.lines;
  parts = fails.parts;
  run = run_over net Together (is_some told) (is_some given) opening fails.first histories events fails.lines tells fails.run;
  told = fails.told;
  faults = fails.faults;
  left = leaves_from net told given fails.told faults begun fails.faults histories fails.run.end later fails.left;
  fault = fails.fault;
  failed = fails.failed;
  later = fails.later;
  named = fails.named;
  only = only_fault told given (fails.fault ≡ StoreFault) tells fails.only;
  printed = fails.printed;
})))

-- the run, from what its store told
pub runs_from : AreFlown → AreSafe → (net : Net) (script : Script) (output : Output) (given : Option (List ℕ)) (faults : ℕ) (hand : Hand) (left : Left) (status : ℕ) → IsBegun net Together hand
    → hand.book.told ≡ option_map (marked net) given → IfSome given (λ bytes. Recovered net bytes hand.book.state.changes) → IsReadable given → faults ≤ hand.book.faults
    → PartsEnded net script.items output hand.book left status → RunsFrom net script output (stored_from given left.told faults left.faults) status left.histories left.events
runs_from flown safe net script output given faults hand left status begun told changes readable later ended = record {
  opening = hand.book.state.changes;
  opens = record { told = changes; readable = readable; follow = begun.follow; few = subst (λ (n : Net). AreFew n hand.book.state.changes) begun.network begun.few };
  world = ended.world;
  safe = frames_safe flown safe (opening_on net hand.book.state.changes) (reverse left.events) ended.world.world;
  ends = ends_from net script.items output hand.book.told given left.told faults hand.book.faults left.faults hand.book.state.changes status left.histories left.events
      (ap is_some told ∙ tells_marked net given) later ended.ends;
}

-- memory ran out before anything was run, or the first recovery failed
pub nothing_run : (net : Net) (script : Script) (output : Output) (stored : Stored) (fault : RecoverFault) (status : ℕ) (histories : List History) (events : List Event)
    → IsOpenFault net stored.before stored.after stored.faults_before stored.faults_after fault → stored.faults_before ≤ stored.faults_after → histories ≡ [] → events ≡ []
    → PrintsNamed output [] fault status → RunsTo net script output stored status histories events
nothing_run net script output stored fault status histories events failed later none quiet (inl early) = inl (record {
  none = record { none = none; quiet = quiet; later = later };
  bytes = left_unopened net stored.before stored.after stored.faults_before stored.faults_after fault failed;
  status_is = early;
})
nothing_run net script output stored fault status histories events failed later none quiet (inr (named, printed)) = inr (inl (record {
  fault = fault;
  failed = named_fault net stored.before stored.after stored.faults_before stored.faults_after fault named failed;
  named = named;
  none = record { none = none; quiet = quiet; later = later };
  printed = printed;
}))
