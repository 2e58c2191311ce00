-- Runs of a satellite: superframes that begin and messages that it hears, in any order, and the orders it accepts.
use Rattle.std.specs.Prelude.{ℕ, ◌+◌, if◌then◌else◌, Bool, true, false, List, [], ◌∷◌, ◌++◌}
use Rattle.bt_frame.specs.declared.mode.Mode.{Mode}
use Rattle.bt_air.specs.declared.message.Message.{Message}
use Rattle.bt_air.specs.declared.message.Message.TheVariants as message
use Rattle.bt_air.specs.declared.order.Order.{Order}
use Rattle.bt_air.specs.declared.sent.Taken.{Taken}
use Rattle.bt_air.specs.declared.sent.Taken.TheVariants.{Accepted}
use Rattle.bt_air.specs.Orders.{orders_in}
use Rattle.bt_machines.specs.Orders.{joining}
use Rattle.bt_machines.specs.Satellite.{State, step_of, ticked}

-- what happens to a satellite: the next superframe begins, or it hears a message
pub data SatelliteEvent : Type 0 where
  Begins : SatelliteEvent
  Hears : Message → SatelliteEvent

-- the state after one event
abbrev pub after_event : State → SatelliteEvent → State
after_event s Begins = ticked s
after_event s (Hears message) = (step_of s message).1

-- the state after a run
abbrev pub state_after : State → List SatelliteEvent → State
state_after s [] = s
state_after s (event ∷ events) = state_after (after_event s event) events

-- the answer is that it was carried out
abbrev pub is_accepted : Taken → Bool
is_accepted Accepted = true
is_accepted _ = false

-- the order that is accepted with an event, if one is
abbrev pub accepted_with : State → SatelliteEvent → List Order
accepted_with s Begins = []
accepted_with s (Hears message) = if is_accepted (step_of s message).0 then orders_in message else []

-- the orders that are accepted in a run
abbrev pub accepted : State → List SatelliteEvent → List Order
accepted s [] = []
accepted s (event ∷ events) = accepted_with s event ++ accepted (after_event s event) events

-- the superframe after a run that begins in a superframe, the latest event first
abbrev pub mark_after : ℕ → List SatelliteEvent → ℕ
mark_after opening [] = opening
mark_after opening (Begins ∷ earlier) = mark_after opening earlier + 1
mark_after opening (Hears message ∷ earlier) = mark_after opening earlier

-- the orders that are accepted in a run that begins in a superframe, said by its events alone; the latest stand first in both
abbrev pub orders_after : ℕ → List SatelliteEvent → List Order
orders_after opening [] = []
orders_after opening (Begins ∷ earlier) = orders_after opening earlier
orders_after opening (Hears message ∷ earlier) = joining (orders_after opening earlier) (mark_after opening earlier) message ++ orders_after opening earlier

-- the events from the first on, of those from the latest on
abbrev pub oldest_first : List SatelliteEvent → List SatelliteEvent
oldest_first [] = []
oldest_first (event ∷ earlier) = oldest_first earlier ++ event ∷ []

-- a run with a change: edition 7 is loaded and armed for superframe 6, and from superframe 4 two further ones begin
abbrev pub a_change : List Mode → List SatelliteEvent
a_change modes =
    Hears (message.Load (record { 0 = 1 }) (record { 0 = 7 }) modes)
    ∷ Hears (message.Arm (record { 0 = 2 }) (record { 0 = 7 }) (record { 0 = 6 }))
    ∷ Begins ∷ Begins ∷ []
