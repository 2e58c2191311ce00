-- A change that is to come, and the edition in front with its superframe.
use Rattle.std.proofs.Common.{◌≡◌, ◌⊎◌, inl, inr, ◌+◌, ◌<◌, if◌then◌else◌, Bool, true, false, List, [], ◌∷◌, ◌++◌, reverse, Some, refl, sym, ◌∙◌, ap, arith, subst}
use Rattle.bt_frame.specs.declared.numbers.Mark.{Mark}
use Rattle.bt_air.specs.declared.message.Message.{Message}
use Rattle.bt_air.specs.declared.order.Armed.{Armed}
use Rattle.bt_air.specs.declared.order.Order.{Order}
use Rattle.bt_machines.specs.Satellite.{State, step_of, new_at, ticked, changed, begun, is_due}
use Rattle.bt_machines.specs.SatelliteRun.{SatelliteEvent, Begins, Hears, accepted, after_event, state_after}
use Rattle.bt_machines.proofs.SatelliteRows.{Nothing, Loads, Arms, does, ticked-early, ticked-due}
use Rattle.bt_machines.proofs.Standing.{Stands, after_stands, due_or_later, some_is_armed}

-- the satellite waits for the change
record WaitsFor (change : Armed) (s : State) : Type 0 where
  armed : s.armed ≡ Some change
  back : s.back.edition ≡ change.edition
  ahead : s.mark.0 < change.due.0

-- the superframe of the change is the present one, and its edition is in front
record IsMade (change : Armed) (s : State) : Type 0 where
  now : s.mark.0 ≡ change.due.0
  fore : s.fore.edition ≡ change.edition

-- the change is to come, or made in this superframe, or past
abbrev Nears : Armed → State → Type 0
Nears change s = WaitsFor change s ⊎ (IsMade change s ⊎ (change.due.0 < s.mark.0))

-- the superframe after, whether or not the banks change places
mark_either : (s : State) (due : Bool) → (if due then changed (begun s) else begun s).mark.0 ≡ s.mark.0 + 1
mark_either s true = refl
mark_either s false = refl

-- the superframe after
pub mark_ticked : (s : State) → (ticked s).mark.0 ≡ s.mark.0 + 1
mark_ticked s = mark_either s (is_due s.armed (s.mark.0 + 1))

-- the next superframe, while the change is to come
tick_waiting : (change : Armed) (s : State) → WaitsFor change s → Nears change (ticked s)
tick_waiting change s waits = elim (due_or_later s.mark.0 change.due.0 waits.ahead) [
  | inl due ↦ rw (ticked-due s change waits.armed due) (inr (inl (record { now = sym due; fore = waits.back })))
  | inr early ↦ rw (ticked-early s change waits.armed early) (inl (record { armed = waits.armed; back = waits.back; ahead = early }))
]

-- the next superframe, once the change was made
tick_after : (change : Armed) (s : State) → IsMade change s ⊎ (change.due.0 < s.mark.0) → Nears change (ticked s)
tick_after change s (inl made) = let e : s.mark.0 ≡ change.due.0 = made.now in let m : (ticked s).mark.0 ≡ s.mark.0 + 1 = mark_ticked s in inr (inr (omega arith))
tick_after change s (inr past) = let m : (ticked s).mark.0 ≡ s.mark.0 + 1 = mark_ticked s in inr (inr (omega arith))

-- a message, while the change is to come
hear_waiting : (change : Armed) (s : State) (message : Message) → WaitsFor change s → Nears change (step_of s message).1
hear_waiting change s message waits = elim (does s message) [
  | Nothing none same ↦ rw same (inl waits)
  | Loads command edition modes one after later free ↦ absurd (some_is_armed s.armed change waits.armed free)
  | Arms command edition due one after later free ready ahead ↦ absurd (some_is_armed s.armed change waits.armed free)
]

-- a message moves neither the superframe nor what is in front
hear_keeps : (s : State) (message : Message) → ((step_of s message).1.mark ≡ s.mark) × ((step_of s message).1.fore ≡ s.fore)
hear_keeps s message = elim (does s message) [
  | Nothing none same ↦ rw same (refl, refl)
  | Loads command edition modes one after later free ↦ rw after (refl, refl)
  | Arms command edition due one after later free ready ahead ↦ rw after (refl, refl)
]

-- a message, once the change was made
hear_after : (change : Armed) (s : State) (message : Message) → IsMade change s ⊎ (change.due.0 < s.mark.0) → Nears change (step_of s message).1
hear_after change s message (inl made) = let keeps = hear_keeps s message in
    inr (inl (record { now = ap (λ (mark : Mark). mark.0) keeps.0 ∙ made.now; fore = ap (λ bank. bank.edition) keeps.1 ∙ made.fore }))
hear_after change s message (inr past) = let e = ap (λ (mark : Mark). mark.0) (hear_keeps s message).0 in inr (inr (rw e past))

-- an event
event_nears : (change : Armed) (s : State) (event : SatelliteEvent) → Nears change s → Nears change (after_event s event)
event_nears change s Begins (inl waits) = tick_waiting change s waits
event_nears change s Begins (inr after) = tick_after change s after
event_nears change s (Hears message) (inl waits) = hear_waiting change s message waits
event_nears change s (Hears message) (inr after) = hear_after change s message after

-- a run
run_nears : (change : Armed) (s : State) (events : List SatelliteEvent) → Nears change s → Nears change (state_after s events)
run_nears change s [] nears = nears
run_nears change s (event ∷ events) nears = run_nears change (after_event s event) events (event_nears change s event nears)

-- the edition in front with the superframe of the change
in_front : (change : Armed) (s : State) → Nears change s → s.mark ≡ change.due → s.fore.edition ≡ change.edition
in_front change s (inl waits) now = let e = ap (λ (mark : Mark). mark.0) now in let h : s.mark.0 < change.due.0 = waits.ahead in absurd (omega arith)
in_front change s (inr (inl made)) now = made.fore
in_front change s (inr (inr past)) now = let e = ap (λ (mark : Mark). mark.0) now in absurd (omega arith)

-- a satellite that is armed waits for the change
armed_waits : (orders : List Order) (s : State) (change : Armed) → Stands orders s → s.armed ≡ Some change → WaitsFor change s
armed_waits orders s change (inl idle) armed = absurd (some_is_armed s.armed change armed idle.armed)
armed_waits orders s change (inr waits) armed = let e : waits.change ≡ change = grind arith in
    subst (λ (one : Armed). WaitsFor one s) e (record { armed = waits.armed; back = waits.back; ahead = waits.ahead })

-- a run in two parts
state_after-append : (s : State) (before events : List SatelliteEvent) → state_after s (before ++ events) ≡ state_after (state_after s before) events
state_after-append s [] events = refl
state_after-append s (event ∷ before) events = state_after-append (after_event s event) before events

-- the edition of a change is in front with its superframe
pub comes_to_the_front : (mark : Mark) (before events : List SatelliteEvent) (change : Armed) → (state_after (new_at mark) before).armed ≡ Some change
    → (state_after (new_at mark) (before ++ events)).mark ≡ change.due → (state_after (new_at mark) (before ++ events)).fore.edition ≡ change.edition
comes_to_the_front mark before events change armed now =
    let waits = armed_waits (reverse (accepted (new_at mark) before)) (state_after (new_at mark) before) change (after_stands mark before) armed in
    in_front change (state_after (new_at mark) (before ++ events))
    (rw (state_after-append (new_at mark) before events) (run_nears change (state_after (new_at mark) before) events (inl waits))) now
