-- The simulated air, of which the satellite, the terminals and the standby are machines of the centre's own process: what it is, what an
-- event makes of it, and what each line of a script that it alone has makes happen.
use Rattle.std.specs.Prelude.{◌≡◌, ◌⊎◌, ℕ, ◌+◌, ◌<◌, ◌≤◌, ◌++◌, List, [], ◌∷◌, length, slice_get, Option, Some}
use Rattle.bt_frame.specs.declared.limits.TheConstants.{LAST_MARK}
use Rattle.bt_frame.specs.declared.numbers.EditionNo.{EditionNo}
use Rattle.bt_frame.specs.declared.numbers.Mark.{Mark}
use Rattle.bt_frame.specs.declared.numbers.TermNo.{TermNo}
use Rattle.bt_net.specs.Network.{Net}
use Rattle.bt_demand.specs.declared.plan.Plan.{Plan}
use Rattle.bt_air.specs.declared.order.Order.{Order}
use Rattle.bt_air.specs.declared.sent.Answer.{Answer}
use Rattle.bt_air.specs.declared.sent.Place.{Place}
use Rattle.bt_air.specs.declared.order.Status.{Status}
use Rattle.bt_air.specs.declared.sent.Aired.{Aired}
use Rattle.bt_air.specs.declared.sent.Aired.TheVariants as sends
use Rattle.bt_air.specs.Sent.{sent_as}
use Rattle.bt_air.specs.declared.shown.AirFrame.{AirFrame}
use Rattle.bt_air.specs.declared.shown.Shown.TheVariants.{Delivered, Framed}
use Rattle.bt_site.specs.Event.{Event, Tick, Second, Deliver, Frame, ResetTerminal, Happening}
use Rattle.bt_world.specs.Life.{Life, having_had, past_of}
use Rattle.bt_world.specs.Shown.{IsShown}
use Rattle.bt_site.specs.World.{comes_to, frames_shown, mark, orders, plans, sent, sent_with, terminals}
use Rattle.bt_machines.specs.Standby.{named, step_of}
use Rattle.bt_script.specs.declared.script.Losing.{Losing}
use Rattle.bt_timeline.specs.Air.{tick_line, last_tick_line, flow_line, got_line, lost_line, not_sent_line, frame_lines, over_line, reset_line, sent_line, noticed_line, unnoticed_line, unsent_line, standby_burst_line}
use Rattle.bt_round.specs.Waiting.{deliveries, lost_of, left_of}

-- A simulated air: the world with all that happened, which messages are still to be heard where, the next first, the
-- edition to which the centre goes back, if it does, and the status that the standby keeps, if it keeps one.
pub record SimulatedAir : Type 0 where
  pub life : Life
  pub waiting : List (ℕ × Place)
  pub back : Option EditionNo
  pub standby : Option Status

-- what the events came to, the latest first
abbrev pub happened : SimulatedAir → List Happening
happened air = past_of air.life

-- the present superframe
abbrev pub mark_of : SimulatedAir → Mark
mark_of air = record { 0 = mark air.life.opening (happened air) }

-- the plans of the world, the latest first
abbrev pub plans_in : SimulatedAir → List Plan
plans_in air = plans air.life.opening (happened air)

-- the orders that are placed
abbrev pub orders_in : SimulatedAir → List Order
orders_in air = orders air.life.opening (happened air)

-- the messages that were sent
abbrev pub sent_in : SimulatedAir → List Aired
sent_in air = sent air.life.opening (happened air)

-- how many messages were sent
abbrev pub sent_count : SimulatedAir → ℕ
sent_count air = length (sent_in air)

-- the messages that an event sends
abbrev pub sent_by : SimulatedAir → Event → List Aired
sent_by air event = sent_with air.life.opening (happened air) (comes_to air.life.opening (happened air) event)

-- after an event: who is to hear the messages that it sent waits behind the others
abbrev pub having : SimulatedAir → Event → SimulatedAir
having air event = record {
  life = having_had air.life event;
  waiting = air.waiting ++ deliveries (terminals air.life.opening) (sent_count air) (sent_by air event);
  back = air.back;
  standby = air.standby;
}

-- the same, with these deliveries still to come
abbrev pub awaiting : SimulatedAir → List (ℕ × Place) → SimulatedAir
awaiting air waiting = record { life = air.life; waiting = waiting; back = air.back; standby = air.standby }

-- the same, going back to this edition, or ahead
abbrev pub going : SimulatedAir → Option EditionNo → SimulatedAir
going air back = record { life = air.life; waiting = air.waiting; back = back; standby = air.standby }

-- the same, where the standby keeps this status
abbrev pub keeping : SimulatedAir → Option Status → SimulatedAir
keeping air standby = record { life = air.life; waiting = air.waiting; back = air.back; standby = standby }

-- the lines of messages, the first of them with this number
abbrev pub sent_lines : Net → ℕ → List Aired → List ℕ
sent_lines net first [] = []
sent_lines net first (one ∷ more) = sent_line net first (sent_as one) ++ sent_lines net (first + 1) more

-- the lines of the messages that an event sends
abbrev pub sends_text : Net → SimulatedAir → Event → List ℕ
sends_text net air event = sent_lines net (sent_count air) (sent_by air event)

-- the next superframe begins, where it is not the last
abbrev pub PlaysTick : Net → SimulatedAir → List ℕ → SimulatedAir → Type 0
PlaysTick net air text after =
    (((mark_of air).0 ≡ LAST_MARK) × (text ≡ last_tick_line) × (after ≡ air))
    ⊎ (((mark_of air).0 < LAST_MARK) × (text ≡ tick_line (record { 0 = (mark_of air).0 + 1 }) ++ sends_text net air Tick) × (after ≡ having air Tick))

-- a message is heard at a place, which answers
pub record PlaysHearing (net : Net) (air : SimulatedAir) (number : ℕ) (place : Place) (text : List ℕ) (after : SimulatedAir) : Type 0 where
  pub answer : Answer
  pub answered : IsShown air.life.opening (happened air) (Deliver number place) (Delivered answer)
  pub printed : text ≡ got_line net number place answer ++ sends_text net air (Deliver number place)
  pub heard : after ≡ having air (Deliver number place)

-- the first delivery that waits comes, and the others wait on
pub record PlaysNext (net : Net) (air : SimulatedAir) (next : ℕ × Place) (text : List ℕ) (after : SimulatedAir) : Type 0 where
  pub others : List (ℕ × Place)
  pub first : air.waiting ≡ next ∷ others
  pub hearing : PlaysHearing net (awaiting air others) next.0 next.1 text after

-- these deliveries come one after the other, each of them the first that waits then
abbrev pub PlaysDeliveries : Net → SimulatedAir → List (ℕ × Place) → List ℕ → SimulatedAir → Type 0
PlaysDeliveries net air [] text after = (text ≡ []) × (after ≡ air)
PlaysDeliveries net air (next ∷ later) text after =
    (between : SimulatedAir) × (own : List ℕ) × (others : List ℕ)
    × PlaysNext net air next own between × PlaysDeliveries net between later others after × (text ≡ own ++ others)

-- all that waits is heard, and what is sent meanwhile, until nothing waits
pub record PlaysFlow (net : Net) (air : SimulatedAir) (text : List ℕ) (after : SimulatedAir) : Type 0 where
  pub heard : List (ℕ × Place)
  pub lines : List ℕ
  pub flowed : PlaysDeliveries net air heard lines after
  pub none_left : after.waiting ≡ []
  pub printed : text ≡ flow_line ++ lines

-- what waits is lost, or what waits for one place
pub record PlaysLoss (air : SimulatedAir) (losing : Losing) (text : List ℕ) (after : SimulatedAir) : Type 0 where
  pub printed : text ≡ lost_line (length (lost_of losing air.waiting))
  pub left : after ≡ awaiting air (left_of losing air.waiting)

-- a message is heard once more or out of turn, where one of that number was sent
abbrev pub PlaysDelivery : Net → SimulatedAir → ℕ → Place → List ℕ → SimulatedAir → Type 0
PlaysDelivery net air number place text after =
    ((sent_count air ≤ number) × (text ≡ not_sent_line number) × (after ≡ air))
    ⊎ ((number < sent_count air) × PlaysHearing net air number place text after)

-- a frame is on the air
pub record ShowsFrame (net : Net) (air : SimulatedAir) (text : List ℕ) (after : SimulatedAir) : Type 0 where
  pub frame : AirFrame
  pub shown : IsShown air.life.opening (happened air) Frame (Framed frame)
  pub printed : text ≡ frame_lines net frame
  pub over : after ≡ having air Frame

-- the next frame of the superframe is shown, where one is left
abbrev pub PlaysFrame : Net → SimulatedAir → List ℕ → SimulatedAir → Type 0
PlaysFrame net air text after =
    ((net.frames ≤ frames_shown (happened air)) × (text ≡ over_line (mark_of air)) × (after ≡ air))
    ⊎ ((frames_shown (happened air) < net.frames) × ShowsFrame net air text after)

-- a terminal restarts
pub record PlaysReset (net : Net) (air : SimulatedAir) (terminal : TermNo) (text : List ℕ) (after : SimulatedAir) : Type 0 where
  pub printed : text ≡ reset_line net terminal ++ sends_text net air (ResetTerminal terminal)
  pub reset : after ≡ having air (ResetTerminal terminal)

-- the standby hears a message: a status by its table, and others are not for it
abbrev pub noticed : SimulatedAir → Aired → SimulatedAir
noticed air (sends.Status status) = keeping air (step_of air.standby (mark_of air) status).1
noticed air _ = air

-- the line of what the standby answers to the message of this number
abbrev pub notice_text : SimulatedAir → ℕ → Aired → List ℕ
notice_text air number (sends.Status status) = noticed_line number (step_of air.standby (mark_of air) status).0
notice_text air number _ = unnoticed_line number

-- the message of that number is the one that the standby hears; no event happens
pub record NoticesOne (air : SimulatedAir) (number : ℕ) (text : List ℕ) (after : SimulatedAir) : Type 0 where
  pub one : Aired
  pub sent : slice_get (sent_in air) number ≡ Some one
  pub printed : text ≡ notice_text air number one
  pub kept : after ≡ noticed air one

-- the standby hears a message, where one of that number was sent
abbrev pub PlaysNotice : SimulatedAir → ℕ → List ℕ → SimulatedAir → Type 0
PlaysNotice air number text after =
    ((sent_count air ≤ number) × (text ≡ unsent_line number) × (after ≡ air))
    ⊎ ((number < sent_count air) × NoticesOne air number text after)

-- the reference burst of the standby: it names the edition in front by the status that the standby keeps, where that is of the
-- present superframe, and else none
abbrev pub bridging : SimulatedAir → Event
bridging air = Second (named air.standby (mark_of air))

-- the standby sends its reference burst
pub record PlaysBurst (net : Net) (air : SimulatedAir) (text : List ℕ) (after : SimulatedAir) : Type 0 where
  pub printed : text ≡ standby_burst_line ++ sends_text net air (bridging air)
  pub sent : after ≡ having air (bridging air)
