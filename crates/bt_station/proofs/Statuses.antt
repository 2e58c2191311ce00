-- The status of the satellite stays one that has a spelling.
use Rattle.std.proofs.Common.{◌+◌, ◌<◌, Bool, true, false, arith}
use Rattle.std.specs.Prelude.{if◌then◌else◌}
use Rattle.bt_air.specs.declared.message.Message.{Message}
use Rattle.bt_air.specs.declared.message.Message.TheVariants as message
use Rattle.bt_air.specs.declared.sent.Taken.{Taken}
use Rattle.bt_air.specs.Range.{IsInRange, IsStatus}
use Rattle.bt_machines.specs.Satellite.{State, begun, changed, is_armed, is_due, is_not_loaded, is_stale, is_too_late, status_of, step_of, ticked}

either : (b : Bool) (x y : Taken × State) → IsStatus (status_of x.1) → IsStatus (status_of y.1) → IsStatus (status_of (if b then x else y).1)
either true x y this other = this
either false x y this other = other

-- once it has taken a message
pub status_taken : (s : State) (m : Message) → IsStatus (status_of s) → IsInRange m → IsStatus (status_of (step_of s m).1)
status_taken s (message.Load command edition modes) so (numbered, word, rest) =
    either (is_stale s command) _ _ so (either (is_armed s.armed) _ _ so
    (record { mark = so.mark; fore = so.fore; back = word; armed = so.armed; last = (omega arith, numbered.1) }))
status_taken s (message.Arm command edition due) so (numbered, word, later) =
    either (is_stale s command) _ _ so (either (is_armed s.armed) _ _ so (either (is_not_loaded s edition) _ _ so (either (is_too_late s due) _ _ so
    (record { mark = so.mark; fore = so.fore; back = so.back; armed = record { edition = word; due = later }; last = (omega arith, numbered.1) }))))
status_taken s (message.Status status) so range = so
status_taken s (message.PlanFor to load edition bursts) so range = so
status_taken s (message.Confirm from load edition) so range = so
status_taken s (message.Reference superframe in_force next) so range = so
status_taken s (message.Lost from) so range = so

either_state : (b : Bool) (x y : State) → IsStatus (status_of x) → IsStatus (status_of y) → IsStatus (status_of (if b then x else y))
either_state true x y this other = this
either_state false x y this other = other

status_begun : (s : State) → s.mark.0 < 4000000000 → IsStatus (status_of s) → IsStatus (status_of (begun s))
status_begun s below so = record { mark = (omega arith, omega (arith, below)); fore = so.fore; back = so.back; armed = so.armed; last = so.last }

-- once its next superframe has begun
pub status_ticked : (s : State) → s.mark.0 < 4000000000 → IsStatus (status_of s) → IsStatus (status_of (ticked s))
status_ticked s below so =
    let on = status_begun s below so in
    either_state (is_due s.armed (s.mark.0 + 1)) (changed (begun s)) (begun s) (record { mark = on.mark; fore = on.back; back = on.fore; armed = tt; last = on.last }) on
