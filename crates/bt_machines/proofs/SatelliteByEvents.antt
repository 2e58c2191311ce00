-- The superframe after a run, and the orders that were accepted in it, are said by the events alone.
use Rattle.std.proofs.Common.{◌≡◌, ℕ, ◌+◌, ◌==◌, nat_le, not, if◌then◌else◌, Bool, true, false, List, [], ◌∷◌, ◌++◌, reverse, refl, sym, ap, ◌∙◌, append_assoc, subst}
use Rattle.std.proofs.lemmas.List.{append-nil, reverse-append}
use Rattle.bt_frame.specs.declared.mode.Mode.{Mode}
use Rattle.bt_frame.specs.declared.numbers.Command.{Command}
use Rattle.bt_frame.specs.declared.numbers.EditionNo.{EditionNo}
use Rattle.bt_frame.specs.declared.numbers.Mark.{Mark}
use Rattle.bt_air.specs.declared.message.Message.{Message}
use Rattle.bt_air.specs.declared.message.Message.TheVariants as message
use Rattle.bt_air.specs.declared.order.Order.{Order}
use Rattle.bt_air.specs.declared.order.Order.TheVariants.{Load, Arm}
use Rattle.bt_air.specs.declared.sent.Taken.{Taken}
use Rattle.bt_air.specs.declared.sent.Taken.TheVariants.{Accepted, Stale, Busy, NotLoaded, TooLate}
use Rattle.bt_machines.specs.Satellite.{State, new_at, step_of, status_of, is_stale, is_armed, is_not_loaded, is_too_late, loaded, with_armed}
use Rattle.bt_air.specs.Orders.{last_command, last_arm, to_come}
use Rattle.bt_machines.specs.SatelliteRun.{SatelliteEvent, Begins, Hears, accepted, accepted_with, is_accepted, after_event, state_after, mark_after, orders_after, oldest_first}
use Rattle.bt_machines.specs.Orders.{back_with, joining, telling, StandsFor}
use Rattle.bt_machines.proofs.Ahead.{mark_ticked}
use Rattle.bt_machines.proofs.Said.{stands_for}

-- the state after a run with one event more
pub state_more : (s : State) (events : List SatelliteEvent) (event : SatelliteEvent) → state_after s (events ++ event ∷ []) ≡ after_event (state_after s events) event
state_more s [] event = refl
state_more s (first ∷ events) event = state_more (after_event s first) events event

accepted_more : (s : State) (events : List SatelliteEvent) (event : SatelliteEvent) → accepted s (events ++ event ∷ []) ≡ accepted s events ++ accepted_with (state_after s events) event
accepted_more s [] event = append-nil (accepted_with s event)
accepted_more s (first ∷ events) event = ap (λ (orders : List Order). accepted_with s first ++ orders) (accepted_more (after_event s first) events event) ∙ sym (append_assoc (accepted_with s first) (accepted (after_event s first) events) (accepted_with (state_after (after_event s first) events) event))

-- the rows, by their tests
abbrev load_row : State → Command → EditionNo → List Mode → Bool → Bool → Taken × State
load_row s command edition modes stale armed = if stale then (Stale, s) else (if armed then (Busy, s) else (Accepted, loaded s command edition modes))

abbrev arm_row : State → Command → EditionNo → Mark → Bool → Bool → Bool → Bool → Taken × State
arm_row s command edition due stale armed missing late = if stale then (Stale, s) else (if armed then (Busy, s) else (if missing then (NotLoaded, s) else (if late then (TooLate, s) else (Accepted, with_armed s command edition due))))

load_keeps : (s : State) (command : Command) (edition : EditionNo) (modes : List Mode) (stale armed : Bool) → (load_row s command edition modes stale armed).1.mark ≡ s.mark
load_keeps s command edition modes true armed = refl
load_keeps s command edition modes false true = refl
load_keeps s command edition modes false false = refl

arm_keeps : (s : State) (command : Command) (edition : EditionNo) (due : Mark) (stale armed missing late : Bool) → (arm_row s command edition due stale armed missing late).1.mark ≡ s.mark
arm_keeps s command edition due true armed missing late = refl
arm_keeps s command edition due false true missing late = refl
arm_keeps s command edition due false false true late = refl
arm_keeps s command edition due false false false true = refl
arm_keeps s command edition due false false false false = refl

hear_keeps : (s : State) (message : Message) → (step_of s message).1.mark ≡ s.mark
hear_keeps s (message.Load command edition modes) = load_keeps s command edition modes (is_stale s command) (is_armed s.armed)
hear_keeps s (message.Arm command edition due) = arm_keeps s command edition due (is_stale s command) (is_armed s.armed) (is_not_loaded s edition) (is_too_late s due)
hear_keeps s (message.Status status) = refl
hear_keeps s (message.PlanFor to load edition bursts) = refl
hear_keeps s (message.Confirm from load edition) = refl
hear_keeps s (message.Reference superframe in_force next) = refl
hear_keeps s (message.Lost from) = refl

-- what joins with a message, by the tests
abbrev load_joins : Order → Bool → Bool → List Order
load_joins order stale armed = if stale then [] else (if armed then [] else order ∷ [])

abbrev arm_joins : Order → Bool → Bool → Bool → Bool → List Order
arm_joins order stale armed missing late = if stale then [] else (if armed then [] else (if missing then [] else (if late then [] else order ∷ [])))

load_accepts : (s : State) (command : Command) (edition : EditionNo) (modes : List Mode) (stale armed : Bool)
    → (if is_accepted (load_row s command edition modes stale armed).0 then Load command edition ∷ [] else []) ≡ load_joins (Load command edition) stale armed
load_accepts s command edition modes true armed = refl
load_accepts s command edition modes false true = refl
load_accepts s command edition modes false false = refl

arm_accepts : (s : State) (command : Command) (edition : EditionNo) (due : Mark) (stale armed missing late : Bool)
    → (if is_accepted (arm_row s command edition due stale armed missing late).0 then Arm command edition due ∷ [] else []) ≡ arm_joins (Arm command edition due) stale armed missing late
arm_accepts s command edition due true armed missing late = refl
arm_accepts s command edition due false true missing late = refl
arm_accepts s command edition due false false true late = refl
arm_accepts s command edition due false false false true = refl
arm_accepts s command edition due false false false false = refl

-- what a satellite accepts that stands as the orders say
accepts : (orders : List Order) (s : State) (message : Message) → StandsFor orders s → accepted_with s (Hears message) ≡ joining orders s.mark.0 message
accepts orders s (message.Load command edition modes) stands =
    load_accepts s command edition modes (is_stale s command) (is_armed s.armed) ∙ rw (stands.last, stands.armed) refl
accepts orders s (message.Arm command edition due) stands =
    arm_accepts s command edition due (is_stale s command) (is_armed s.armed) (is_not_loaded s edition) (is_too_late s due) ∙ rw (stands.last, stands.armed, stands.back) refl
accepts orders s (message.Status status) stands = refl
accepts orders s (message.PlanFor to load edition bursts) stands = refl
accepts orders s (message.Confirm from load edition) stands = refl
accepts orders s (message.Reference superframe in_force next) stands = refl
accepts orders s (message.Lost from) stands = refl

-- one order at most
one_load : (order : Order) (stale armed : Bool) → reverse (load_joins order stale armed) ≡ load_joins order stale armed
one_load order true armed = refl
one_load order false true = refl
one_load order false false = refl

one_arm : (order : Order) (stale armed missing late : Bool) → reverse (arm_joins order stale armed missing late) ≡ arm_joins order stale armed missing late
one_arm order true armed missing late = refl
one_arm order false true missing late = refl
one_arm order false false true late = refl
one_arm order false false false true = refl
one_arm order false false false false = refl

one_joins : (orders : List Order) (mark : ℕ) (message : Message) → reverse (joining orders mark message) ≡ joining orders mark message
one_joins orders mark (message.Load command edition modes) = one_load (Load command edition) (nat_le command.0 (last_command orders).0) (is_armed (to_come (last_arm orders) mark))
one_joins orders mark (message.Arm command edition due) = one_arm (Arm command edition due) (nat_le command.0 (last_command orders).0) (is_armed (to_come (last_arm orders) mark)) (not ((back_with (to_come (last_arm orders) mark) orders).0 == edition.0)) (nat_le due.0 mark)
one_joins orders mark (message.Status status) = refl
one_joins orders mark (message.PlanFor to load edition bursts) = refl
one_joins orders mark (message.Confirm from load edition) = refl
one_joins orders mark (message.Reference superframe in_force next) = refl
one_joins orders mark (message.Lost from) = refl

-- the superframe after a run
pub mark_said : (mark : Mark) (latest : List SatelliteEvent) → (state_after (new_at mark) (oldest_first latest)).mark.0 ≡ mark_after mark.0 latest
mark_said mark [] = refl
mark_said mark (Begins ∷ earlier) =
    let s = state_after (new_at mark) (oldest_first earlier) in
    ap (λ (t : State). t.mark.0) (state_more (new_at mark) (oldest_first earlier) Begins) ∙ mark_ticked s ∙ ap (λ (n : ℕ). n + 1) (mark_said mark earlier)
mark_said mark (Hears message ∷ earlier) =
    let s = state_after (new_at mark) (oldest_first earlier) in
    ap (λ (t : State). t.mark.0) (state_more (new_at mark) (oldest_first earlier) (Hears message)) ∙ ap (λ (m : Mark). m.0) (hear_keeps s message) ∙ mark_said mark earlier

-- the orders that are accepted in a run
pub orders_said : (mark : Mark) (latest : List SatelliteEvent) → reverse (accepted (new_at mark) (oldest_first latest)) ≡ orders_after mark.0 latest
orders_said mark [] = refl
orders_said mark (Begins ∷ earlier) =
    ap (λ (orders : List Order). reverse orders) (accepted_more (new_at mark) (oldest_first earlier) Begins ∙ append-nil (accepted (new_at mark) (oldest_first earlier))) ∙ orders_said mark earlier
orders_said mark (Hears message ∷ earlier) =
    let events = oldest_first earlier in
    let s = state_after (new_at mark) events in
    let orders = reverse (accepted (new_at mark) events) in
    ap (λ (list : List Order). reverse list) (accepted_more (new_at mark) events (Hears message))
    ∙ reverse-append (accepted (new_at mark) events) (accepted_with s (Hears message))
    ∙ ap (λ (front : List Order). reverse front ++ orders) (accepts orders s message (stands_for mark events))
    ∙ ap (λ (front : List Order). front ++ orders) (one_joins orders s.mark.0 message)
    ∙ ap (λ (n : ℕ). joining orders n message ++ orders) (mark_said mark earlier)
    ∙ ap (λ (list : List Order). joining list (mark_after mark.0 earlier) message ++ list) (orders_said mark earlier)

-- a satellite is what the orders say that were accepted, as the events say them
pub stands_by_events : (mark : Mark) (latest : List SatelliteEvent) → StandsFor (orders_after mark.0 latest) (state_after (new_at mark) (oldest_first latest))
stands_by_events mark latest = subst (λ (orders : List Order). StandsFor orders (state_after (new_at mark) (oldest_first latest))) (orders_said mark latest) (stands_for mark (oldest_first latest))

-- the status of a satellite that stands as the orders say
told : (orders : List Order) (s : State) → StandsFor orders s → status_of s ≡ telling orders s.mark.0
told orders s stands = rw (stands.fore, stands.back, stands.armed, stands.last) refl

-- what a satellite says of itself after a run
pub status_said : (mark : Mark) (latest : List SatelliteEvent)
    → status_of (state_after (new_at mark) (oldest_first latest)) ≡ telling (orders_after mark.0 latest) (mark_after mark.0 latest)
status_said mark latest =
    told (orders_after mark.0 latest) (state_after (new_at mark) (oldest_first latest)) (stands_by_events mark latest)
    ∙ ap (λ (n : ℕ). telling (orders_after mark.0 latest) n) (mark_said mark latest)
