-- The centre restarts over the store's changes, or they could not be recovered.
use Rattle.std.proofs.Common.{◌≡◌, ◌≢◌, ℕ, ◌≤◌, List, [], ◌∷◌, ◌++◌, length, reverse, Option, Some, None, refl, sym, ap, ◌∙◌, subst, arith, inl, inr}
use Rattle.std.specs.Prelude.{IfSome, option_map}
use Rattle.std.specs.Option.{is_some}
use Rattle.bt_frame.specs.declared.limits.TheConstants.{MOST_JOURNAL_BYTES}
use Rattle.bt_outside.specs.Crash.{Crashes, Elapses, LeavesOnly, LeavesSince}
use Rattle.bt_outside.specs.Told.{IsLonger}
use Rattle.bt_net.specs.Network.{IsSound, Net}
use Rattle.bt_air.specs.declared.event.Event.{Event}
use Rattle.bt_journal.specs.declared.call.Change.{Change}
use Rattle.bt_journal.specs.declared.entry.Entry.{Entry}
use Rattle.bt_history.specs.declared.fault.RecoverFault.{RecoverFault}
use Rattle.bt_history.specs.declared.fault.RecoverFault.TheVariants.{J1, J2, StoreFault, TooLong, OutOfMemory}
use Rattle.bt_history.specs.Book.{Books}
use Rattle.bt_history.specs.Causes.{Follows}
use Rattle.bt_history.specs.Crash.{IsLeftByRecovery, Last, TellsNext as Opens}
use Rattle.bt_history.specs.Machine.{running}
use Rattle.bt_history.specs.Recovery.{IsOutside, IsReadable, IsRecoverFault, MaybeRecovered, Recovered, TellsSome, marked}
use Rattle.bt_history.proofs.Holding.{tells_some}
use Rattle.bt_history.specs.Store.{IsKept, IsNextOpening, IsStored, lost_of}
use Rattle.bt_script.specs.declared.script.Item.TheVariants as item
use Rattle.bt_round.specs.AirLines.{AirState, events_in, opening_in}
use Rattle.bt_centre.specs.declared.history.History.{History}
use Rattle.bt_centre.specs.Progress.{BeganAgain, CentreBegan, Hand, IsLeftAtRestart, IsOpenFault, IsLeftBehind, IsLeftEarly, ItemFailed, Left, RestartPlayed, histories_in}
use Rattle.bt_centre.specs.Run.{AreFew}
use Rattle.bt_centre.proofs.Going.{ran_none}
use Rattle.bt_centre.specs.World.{IsSpelledWorld}

-- a store tells its next opening
abbrev pub TellsNext : Net → Option (List ℕ) → List Change → List Change → Type 0
TellsNext net told changes lost = IfSome told (λ bytes. (next : List Change) × Recovered net bytes next × IsNextOpening changes lost next)

-- the changes that were recovered are those
pub next_is : (net : Net) (told : Option (List ℕ)) (changes lost now : List Change) → TellsNext net told changes lost
    → IfSome told (λ bytes. (other : List Change) → Recovered net bytes other → now ≡ other) → IfSome told (λ _. IsNextOpening changes lost now)
next_is net (Some bytes) changes lost now (next, is, on) exact = subst (IsNextOpening changes lost) (sym (exact next is)) on
next_is net None changes lost now next exact = tt

pub tells_marked : (net : Net) (told : Option (List ℕ)) → is_some (option_map (marked net) told) ≡ is_some told
tells_marked net (Some bytes) = refl
tells_marked net None = refl

-- the centre restarted
pub restarted : (net : Net) (old new : Hand) (book : Books) (over : List History) (text : List ℕ) → BeganAgain book old.air over old.rounds new text → over ≡ histories_in old
    → book.net ≡ net → book.history ≡ [] → book.state ≡ running book.state.changes → Follows net book.state.changes
    → IfSome old.book.told (λ _. IsNextOpening old.book.state.changes (lost_of old.book.history) book.state.changes)
    → is_some book.told ≡ is_some old.book.told → old.book.faults ≤ book.faults → Last net old.book.state.changes old.book.crashes book.crashes → RestartPlayed net old new text
restarted net old new book over text began all network none runs follow next tells later last =
    let at : book ≡ new.book = sym began.book_is in
    record {
      over = began.over_is ∙ all;
      before = began.before ∙ ap (λ (b : Books). length b.state.changes) at;
      network = ap (λ (b : Books). b.net) (sym at) ∙ network;
      none = ap (λ (b : Books). b.history) (sym at) ∙ none;
      runs = subst (λ (b : Books). b.state ≡ running b.state.changes) at runs;
      follow = subst (λ (b : Books). Follows net b.state.changes) at follow;
      few = subst (λ (b : Books). AreFew net b.state.changes) at (subst (λ (n : Net). AreFew n book.state.changes) network began.few);
      next = subst (λ (b : Books). IfSome old.book.told (λ _. IsNextOpening old.book.state.changes (lost_of old.book.history) b.state.changes)) at next;
      tells = ap (λ (b : Books). is_some b.told) (sym at) ∙ tells;
      later = omega (arith, later, ap (λ (b : Books). b.faults) at);
      last = subst (λ (b : Books). Last net old.book.state.changes old.book.crashes b.crashes) at last;
      rounds = began.rounds_are;
      centre = subst (λ (b : Books). CentreBegan b.state.changes old.air new.air text) at began.centre;
    }

-- memory ran out over the restart
pub left_behind : (net : Net) (old : Hand) (left : Left) → old.book.net ≡ net → Follows net old.book.state.changes → left.histories ≡ histories_in old → old.book.faults ≤ left.faults
    → IsSpelledWorld (opening_in old.air) (reverse left.events) → IsKept old.book.net old.book.told old.book.state.changes (lost_of old.book.history)
    → MaybeRecovered net old.book.told left.told old.book.faults left.faults → Last net old.book.state.changes old.book.crashes left.crashes
    → IsLeftEarly old left
left_behind net old left network follow all later world kept cut last = record {
  hand = old;
  goes = record { over = refl; before = refl; ran = ran_none net old.book network follow; world = refl };
  histories = all;
  kept = kept;
  cut = subst (λ (n : Net). MaybeRecovered n old.book.told left.told old.book.faults left.faults) (sym network) cut;
  later = later;
  last = λ now. subst (λ (n : Net). Last n old.book.state.changes old.book.crashes left.crashes) (sym network) last;
  world = world;
}

-- what is known where the recovery at a restart failed
pub record Fails (net : Net) (old : Hand) (left : Left) (fault : RecoverFault) : Type 0 where
  pub network : old.book.net ≡ net
  pub follow : Follows net old.book.state.changes
  pub failed : IsRecoverFault net old.book.told left.told old.book.faults left.faults fault
  pub later : old.book.faults ≤ left.faults
  pub outside : IfSome old.book.told (λ bytes. (changes : List Change) → Recovered net bytes changes → IsOutside fault)
  pub next : TellsNext net old.book.told old.book.state.changes (lost_of old.book.history)
  pub short : IsReadable old.book.told
  pub last : Last net old.book.state.changes old.book.crashes left.crashes
  pub kept : IsKept old.book.net old.book.told old.book.state.changes (lost_of old.book.history)
  pub histories : left.histories ≡ histories_in old
  pub events : left.events ≡ events_in old.air
  pub world : IsSpelledWorld (opening_in old.air) (reverse left.events)

at_restart : (net : Net) (old : Hand) (left : Left) (fault : RecoverFault) → Fails net old left fault → fault ≢ OutOfMemory → IfSome old.book.told (λ _. fault ≡ StoreFault)
    → IsLeftAtRestart net old left fault
at_restart net old left fault is named only = record {
  named = named;
  failed = is.failed;
  later = is.later;
  only = only;
  last = is.last;
  histories = is.histories;
  events = is.events;
  world = is.world;
  kept = is.kept;
}

never_outside : (net : Net) (told : Option (List ℕ)) (changes lost : List Change) (P Q : Type 0) → (P → ⊥) → TellsNext net told changes lost
    → IfSome told (λ bytes. (other : List Change) → Recovered net bytes other → P) → IfSome told (λ _. Q)
never_outside net (Some bytes) changes lost P Q never (next, is, on) outside = absurd (never (outside next is))
never_outside net None changes lost P Q never next outside = tt

never_long : (told : Option (List ℕ)) (Q : Type 0) → IsReadable told → IsLonger told MOST_JOURNAL_BYTES → IfSome told (λ _. Q)
never_long (Some bytes) Q short long = absurd (omega (arith, short, long))
never_long None Q short long = tt

always : (told : Option (List ℕ)) (Q : Type 0) → Q → IfSome told (λ _. Q)
always (Some bytes) Q is = is
always None Q is = tt

-- a recovery that failed leaves the store as one does behind which memory ran out
pub left_at_fault : (net : Net) (old new : Option (List ℕ)) (before now : ℕ) (fault : RecoverFault) → IsRecoverFault net old new before now fault → MaybeRecovered net old new before now
left_at_fault net old new before now (J1 line) is = inl (inl is.0)
left_at_fault net old new before now (J2 line) is = inl (inl is.0)
left_at_fault net old new before now StoreFault is = inr (inr is)
left_at_fault net old new before now TooLong is = inl (inl is.0)
left_at_fault net old new before now OutOfMemory is = inl is

-- and so it is where a run did not begin
pub left_unopened : (net : Net) (old new : Option (List ℕ)) (before now : ℕ) (fault : RecoverFault) → IsOpenFault net old new before now fault → MaybeRecovered net old new before now
left_unopened net old new before now (J1 line) is = inl (inl is.0)
left_unopened net old new before now (J2 line) is = inl (inl is.0)
left_unopened net old new before now StoreFault is = inr (inr is)
left_unopened net old new before now TooLong is = inl (inl is.0)
left_unopened net old new before now OutOfMemory is = is

-- a fault of the recovery is one of the opening
pub open_fault : (net : Net) (old new : Option (List ℕ)) (before now : ℕ) (fault : RecoverFault) → IsRecoverFault net old new before now fault → IsOpenFault net old new before now fault
open_fault net old new before now (J1 line) is = is
open_fault net old new before now (J2 line) is = is
open_fault net old new before now StoreFault is = is
open_fault net old new before now TooLong is = is
open_fault net old new before now OutOfMemory is = inl is

-- and where it is named, the other way round
pub named_fault : (net : Net) (old new : Option (List ℕ)) (before now : ℕ) (fault : RecoverFault) → fault ≢ OutOfMemory → IsOpenFault net old new before now fault
    → IsRecoverFault net old new before now fault
named_fault net old new before now (J1 line) named is = is
named_fault net old new before now (J2 line) named is = is
named_fault net old new before now StoreFault named is = is
named_fault net old new before now TooLong named is = is
named_fault net old new before now OutOfMemory named is = absurd (named refl)

-- the recovery failed, or memory ran out over it
pub restart_failed : (net : Net) (old : Hand) (left : Left) (fault : RecoverFault) → Fails net old left fault → ItemFailed net item.Restart old left fault
restart_failed net old left OutOfMemory is = inl (refl, left_behind net old left is.network is.follow is.histories is.later is.world is.kept (inl is.failed) is.last)
restart_failed net old left StoreFault is = inr (refl, at_restart net old left StoreFault is (λ same. cc) (always old.book.told (StoreFault ≡ StoreFault) refl))
restart_failed net old left TooLong is = inr (refl, at_restart net old left TooLong is (λ same. cc) (never_long old.book.told (TooLong ≡ StoreFault) is.short is.failed.1))
restart_failed net old left (J1 line) is =
    inr (refl, at_restart net old left (J1 line) is (λ same. cc) (never_outside net old.book.told old.book.state.changes (lost_of old.book.history) (IsOutside (J1 line)) (J1 line ≡ StoreFault) (λ wrong. wrong) is.next is.outside))
restart_failed net old left (J2 line) is =
    inr (refl, at_restart net old left (J2 line) is (λ same. cc) (never_outside net old.book.told old.book.state.changes (lost_of old.book.history) (IsOutside (J2 line)) (J2 line ≡ StoreFault) (λ wrong. wrong) is.next is.outside))

-- the histories, with that of the time that is over
pub pushed_is : (pushed reserved over : List History) (before : ℕ) (given entries history : List Entry) → pushed ≡ reserved ++ record { before = before; entries = given } ∷ []
    → reserved ≡ over → given ≡ entries → entries ≡ history → pushed ≡ over ++ record { before = before; entries = history } ∷ []
pushed_is pushed reserved over before given entries history push same is_given is_history =
    push ∙ ap (λ (l : List History). l ++ record { before = before; entries = given } ∷ []) same
    ∙ ap (λ (e : List Entry). over ++ record { before = before; entries = e } ∷ []) (is_given ∙ is_history)

-- what the book leaves in its store
pub stored_is : (net : Net) (old : Hand) (book : Books) → book ≡ old.book → old.book.net ≡ net → IsStored book.net book.told book.state.changes (lost_of book.history)
    → IsStored net old.book.told old.book.state.changes (lost_of old.book.history)
stored_is net old book is network stored =
    subst (λ (n : Net). IsStored n old.book.told old.book.state.changes (lost_of old.book.history)) network
    (subst (λ (b : Books). IsStored b.net b.told b.state.changes (lost_of b.history)) is stored)

-- the laws of what a store tells
pub record Laws : Type 0 where
  pub next : (net : Net) (told : Option (List ℕ)) (changes lost : List Change) → IsSound net → Follows net changes → IsStored net told changes lost → TellsNext net told changes lost
  pub short : (net : Net) (told : Option (List ℕ)) (changes lost : List Change) → IsStored net told changes lost → IsReadable told
  pub last : (net : Net) (told : Option (List ℕ)) (was will : Option Crashes) (changes lost : List Change) → IsSound net → Follows net changes → IsStored net told changes lost
      → LeavesOnly was (Opens net changes lost) → Elapses was will → LeavesSince was will (IsLeftByRecovery net told was) → Last net changes was will

-- the changes of a book last over the recovery of what it left in its store
pub recovered_last : Laws → (net : Net) (old : Hand) (book : Books) (told : Option (List ℕ)) (was will : Option Crashes) → IsSound net → book ≡ old.book → old.book.net ≡ net
    → Follows net old.book.state.changes → IsStored book.net book.told book.state.changes (lost_of book.history) → told ≡ book.told → was ≡ book.crashes
    → LeavesOnly book.crashes (Opens book.net book.state.changes (lost_of book.history)) → Elapses was will → LeavesSince was will (IsLeftByRecovery net told was)
    → Last net old.book.state.changes old.book.crashes will
recovered_last laws net old book told was will sound is network follow stored told_is crashes_are only time since =
    let t : told ≡ old.book.told = told_is ∙ ap (λ (b : Books). b.told) is in
    let w : was ≡ old.book.crashes = crashes_are ∙ ap (λ (b : Books). b.crashes) is in
    let lost = lost_of old.book.history in
    let leaves : LeavesOnly old.book.crashes (Opens net old.book.state.changes lost) =
    subst (λ (n : Net). LeavesOnly old.book.crashes (Opens n old.book.state.changes lost)) network
    (subst (λ (b : Books). LeavesOnly b.crashes (Opens b.net b.state.changes (lost_of b.history))) is only) in
    laws.last net old.book.told old.book.crashes will old.book.state.changes lost sound follow (stored_is net old book is network stored) leaves
    (subst (λ (o : Option Crashes). Elapses o will) w time)
    (subst (λ (o : Option Crashes). LeavesSince o will (IsLeftByRecovery net old.book.told o)) w (subst (λ (o : Option (List ℕ)). LeavesSince was will (IsLeftByRecovery net o was)) t since))

-- what is known where the recovery failed
pub fails : Laws → (net : Net) (old : Hand) (book : Books) (left : Left) (fault : RecoverFault) (told : Option (List ℕ)) (faults : ℕ) → IsSound net → book ≡ old.book → old.book.net ≡ net
    → Follows net old.book.state.changes → IsStored book.net book.told book.state.changes (lost_of book.history) → told ≡ book.told → faults ≡ book.faults
    → IsRecoverFault net told left.told faults left.faults fault → faults ≤ left.faults
    → IfSome told (λ bytes. (changes : List Change) → Recovered net bytes changes → IsOutside fault) → left.histories ≡ histories_in old → left.events ≡ events_in old.air
    → IsSpelledWorld (opening_in old.air) (reverse left.events) → Last net old.book.state.changes old.book.crashes left.crashes → Fails net old left fault
fails laws net old book left fault told faults sound is network follow stored told_is faults_are failed later outside all events world last =
    let t : told ≡ old.book.told = told_is ∙ ap (λ (b : Books). b.told) is in
    let f : faults ≡ old.book.faults = faults_are ∙ ap (λ (b : Books). b.faults) is in
    let kept = stored_is net old book is network stored in
    record {
      network = network;
      follow = follow;
      failed = subst (λ (n : ℕ). IsRecoverFault net old.book.told left.told n left.faults fault) f (subst (λ (o : Option (List ℕ)). IsRecoverFault net o left.told faults left.faults fault) t failed);
      later = omega (arith, later, f);
      outside = subst (λ (o : Option (List ℕ)). IfSome o (λ bytes. (changes : List Change) → Recovered net bytes changes → IsOutside fault)) t outside;
      next = laws.next net old.book.told old.book.state.changes (lost_of old.book.history) sound follow kept;
      short = laws.short net old.book.told old.book.state.changes (lost_of old.book.history) kept;
      kept = subst (λ (n : Net). IsKept n old.book.told old.book.state.changes (lost_of old.book.history)) (sym network) kept.kept;
      last = last;
      histories = all;
      events = events;
      world = world;
    }

-- the centre restarted, over what was recovered
pub restarts : Laws → (net : Net) (old new : Hand) (book again : Books) (air : AirState) (over : List History) (text : List ℕ) (told : Option (List ℕ)) (faults : ℕ) → IsSound net → book ≡ old.book → air ≡ old.air
    → old.book.net ≡ net → Follows net old.book.state.changes → IsStored book.net book.told book.state.changes (lost_of book.history) → told ≡ book.told → faults ≡ book.faults
    → BeganAgain again air over old.rounds new text → over ≡ histories_in old → again.net ≡ net → again.history ≡ [] → again.state ≡ running again.state.changes → Follows net again.state.changes
    → IfSome told (λ bytes. (changes : List Change) → Recovered net bytes changes → again.state.changes ≡ changes) → again.told ≡ option_map (marked net) told → faults ≤ again.faults
    → Last net old.book.state.changes old.book.crashes again.crashes → RestartPlayed net old new text
restarts laws net old new book again air over text told faults sound is air_is network follow stored told_is faults_are began all net_is none runs follows exact again_told later last =
    let t : told ≡ old.book.told = told_is ∙ ap (λ (b : Books). b.told) is in
    let f : faults ≡ old.book.faults = faults_are ∙ ap (λ (b : Books). b.faults) is in
    let next = laws.next net old.book.told old.book.state.changes (lost_of old.book.history) sound follow (stored_is net old book is network stored) in
    restarted net old new again over text (subst (λ (a : AirState). BeganAgain again a over old.rounds new text) air_is began) all net_is none runs follows
    (next_is net old.book.told old.book.state.changes (lost_of old.book.history) again.state.changes next
    (subst (λ (o : Option (List ℕ)). IfSome o (λ bytes. (changes : List Change) → Recovered net bytes changes → again.state.changes ≡ changes)) t exact))
    (ap is_some again_told ∙ tells_marked net told ∙ ap is_some t) (omega (arith, later, f)) last

-- memory ran out over what was recovered
pub breaks_behind : (net : Net) (old : Hand) (book again : Books) (air : AirState) (over : List History) (left : Left) (told : Option (List ℕ)) (faults : ℕ) → book ≡ old.book → air ≡ old.air → old.book.net ≡ net
    → Follows net old.book.state.changes → IsStored book.net book.told book.state.changes (lost_of book.history) → told ≡ book.told → again.told ≡ option_map (marked net) told
    → IfSome told (λ bytes. Recovered net bytes again.state.changes) → faults ≡ book.faults → faults ≤ again.faults → IsLeftBehind again air over left → over ≡ histories_in old
    → Last net old.book.state.changes old.book.crashes again.crashes → IsLeftEarly old left
breaks_behind net old book again air over left told faults is air_is network follow stored told_is again_told tells faults_are later behind all last =
    let kept = subst (λ (b : Books). IsKept b.net b.told b.state.changes (lost_of b.history)) is stored.kept in
    let same : told ≡ old.book.told = told_is ∙ ap (λ (b : Books). b.told) is in
    let there : left.told ≡ option_map (marked net) old.book.told = behind.told ∙ again_told ∙ ap (option_map (marked net)) same in
    let some = subst (λ (o : Option (List ℕ)). TellsSome net o) same (tells_some net told again.state.changes tells) in
    left_behind net old left network follow (behind.histories ∙ all) (omega (arith, later, faults_are, ap (λ (b : Books). b.faults) is, behind.faults))
    (subst (λ (a : AirState). IsSpelledWorld (opening_in a) (reverse left.events)) air_is behind.world) kept (inr (inl (there, some)))
    (subst (Last net old.book.state.changes old.book.crashes) (sym behind.crashes) last)

-- the world of the centre's worker
pub world_at : (air old : AirState) (events : List Event) → air ≡ old → events ≡ events_in air → IsSpelledWorld (opening_in air) (reverse (events_in air)) → IsSpelledWorld (opening_in old) (reverse events)
world_at air old events is same world =
    subst (λ (a : AirState). IsSpelledWorld (opening_in a) (reverse events)) is (subst (λ (e : List Event). IsSpelledWorld (opening_in air) (reverse e)) (sym same) world)
