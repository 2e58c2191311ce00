-- The lines of a script that tell of the air: what each of them makes happen, and what is printed of it. The air of a centre is a
-- simulated one, or that of sites apart as the centre knows it.
use Rattle.std.specs.Prelude.{◌≡◌, ◌⊎◌, ℕ, ◌++◌, Bool, true, false, List, [], ◌∷◌, is_some, Option, Some, None, IsSome}
use Rattle.bt_frame.specs.declared.numbers.EditionNo.{EditionNo}
use Rattle.bt_frame.specs.declared.numbers.Mark.{Mark}
use Rattle.bt_net.specs.Network.{Net}
use Rattle.bt_demand.specs.declared.plan.Plan.{Plan}
use Rattle.bt_air.specs.declared.order.Order.{Order}
use Rattle.bt_air.specs.declared.sent.Place.{Place}
use Rattle.bt_site.specs.Event.{Opening, Event, Turn, Ordered, RestartCentre, Install}
use Rattle.bt_site.specs.World.{wanted}
use Rattle.bt_machines.specs.Plans.{newest_of, plan_of}
use Rattle.bt_script.specs.declared.heard.BusLine.{BusLine}
use Rattle.bt_apart.specs.Apart.{apart_at_start, going_apart, having_apart, heard_apart, lines_apart}
use Rattle.bt_apart.specs.Back.{back_lasting}
use Rattle.bt_script.specs.declared.sites.Sites.{Sites}
use Rattle.bt_script.specs.declared.sites.Sites.TheVariants as sites
use Rattle.bt_journal.specs.declared.call.Call.TheVariants as call
use Rattle.bt_journal.specs.declared.entry.Entry.{Entry}
use Rattle.bt_journal.specs.declared.reply.Reply.{Reply}
use Rattle.bt_journal.specs.declared.reply.Reply.TheVariants as reply
use Rattle.bt_script.specs.declared.script.AirLine.{AirLine}
use Rattle.bt_script.specs.declared.script.AirLine.TheVariants as line
use Rattle.bt_timeline.specs.Air.{turn_line, back_turn_line, turn_nomark_line, back_line, not_installed_line, ahead_line, order_line, unplaced_line}
use Rattle.bt_round.specs.Simulated as simulated
use Rattle.bt_round.specs.Simulated.{SimulatedAir, PlaysBurst, PlaysDelivery, PlaysFlow, PlaysFrame, PlaysLoss, PlaysNotice, PlaysReset, PlaysTick}
use Rattle.bt_round.specs.declared.worker.CentreOver.{CentreOver}
pub use Rattle.bt_round.specs.declared.worker.CentreOver.TheVariants.{Simulated, Apart}

-- The state of the air: a simulated one, or what a centre of sites apart knows.
abbrev pub AirState : Type 0
AirState = CentreOver SimulatedAir

-- The air with which a centre opens: nothing has happened, and no message is on its way. It goes back to no edition, but where its sites
-- are apart and its orders do.
abbrev pub start_air : Sites → Opening → AirState
start_air sites.Together opening = Simulated (record { life = record { opening = opening; events = [] }; waiting = []; back = None; standby = None })
start_air sites.Apart opening = Apart (apart_at_start opening)

-- what the air opened with
abbrev pub opening_in : AirState → Opening
opening_in (Simulated a) = a.life.opening
opening_in (Apart a) = a.opening

-- the events of its world; sites apart have none
abbrev pub events_in : AirState → List Event
events_in (Simulated a) = a.life.events
events_in (Apart a) = []

-- the deliveries that are still to come, the next first; a centre of sites apart knows of none
abbrev pub waiting_in : AirState → List (ℕ × Place)
waiting_in (Simulated a) = a.waiting
waiting_in (Apart a) = []

-- the edition to which the centre goes back, if it does
abbrev pub back_of : AirState → Option EditionNo
back_of (Simulated a) = a.back
back_of (Apart a) = a.back

-- the superframe that the centre takes for the present one
abbrev pub mark_of : AirState → Mark
mark_of (Simulated a) = simulated.mark_of a
mark_of (Apart a) = a.mark

-- the centre has heard since its start that a superframe began; in a simulated air it knows the present one
abbrev pub is_marked : AirState → Bool
is_marked (Simulated a) = true
is_marked (Apart a) = a.marked

-- the plans that the centre has, the latest first
abbrev pub plans_in : AirState → List Plan
plans_in (Simulated a) = simulated.plans_in a
plans_in (Apart a) = a.plans

-- the newest edition of which it has a plan
abbrev pub newest_in : AirState → EditionNo
newest_in air = newest_of (plans_in air)

-- the edition to bring to the front: the one to go back to, or else the newest
abbrev pub target_by : Option EditionNo → EditionNo → EditionNo
target_by None newest = newest
target_by (Some edition) newest = edition

abbrev pub target_of : AirState → EditionNo
target_of air = target_by (back_of air) (newest_in air)

-- it has a plan of this edition
abbrev pub has_plan : AirState → EditionNo → Bool
has_plan air edition = is_some (plan_of (plans_in air) edition)

-- the orders that are placed, the latest first
abbrev pub orders_in : AirState → List Order
orders_in (Simulated a) = simulated.orders_in a
orders_in (Apart a) = a.centre.orders

-- the order that the centre wants, if any
abbrev pub wanted_in : AirState → Option Order
wanted_in (Simulated a) = wanted (simulated.happened a)
wanted_in (Apart a) = a.centre.wanted

-- how many messages were sent; of sites apart, how many the centre has said
abbrev pub sent_count : AirState → ℕ
sent_count (Simulated a) = simulated.sent_count a
sent_count (Apart a) = a.said

-- after an event; to a centre of sites apart happens what happens to itself alone
abbrev pub having : AirState → Event → AirState
having (Simulated a) event = Simulated (simulated.having a event)
having (Apart a) event = Apart (having_apart a event)

-- the same, going back to this edition, or ahead
abbrev pub going : AirState → Option EditionNo → AirState
going (Simulated a) back = Simulated (simulated.going a back)
going (Apart a) back = Apart (going_apart a back)

-- the edition to which the centre goes back behind a restart at which its journal has these orders: with sites apart where they do
abbrev pub back_behind : AirState → List Order → Option EditionNo
back_behind (Simulated a) told = None
back_behind (Apart a) told = back_lasting a.plans told

-- the centre restarts, where its journal has these orders, the latest first; all else on a simulated air stays as it is
abbrev pub restarting : AirState → Bool → List Order → AirState
restarting air kept told = going (having air (RestartCentre kept)) (back_behind air told)

-- where the order that the centre wants is kept at a restart, it wants one
abbrev pub KeepsWanted : AirState → Bool → Type 0
KeepsWanted air true = IsSome (wanted_in air)
KeepsWanted air false = Unit {0}

-- once the centre has heard a line of the bus; a simulated air has no bus
abbrev pub hearing : AirState → BusLine → AirState
hearing (Simulated a) heard = Simulated a
hearing (Apart a) heard = Apart (heard_apart a heard)

-- the lines of the messages that an event sends; a centre of sites apart says each of them to the others too
abbrev pub sends_text : Net → AirState → Event → List ℕ
sends_text net (Simulated a) event = simulated.sends_text net a event
sends_text net (Apart a) event = lines_apart net a event

-- a plan that is newer than those that the centre has joins them
abbrev pub installing : AirState → Option Plan → AirState
installing air None = air
installing air (Some plan) = having air (Install plan)

-- the centre goes back to an edition from its next turn on, where it has a plan of it
abbrev pub PlaysBack : AirState → EditionNo → List ℕ → AirState → Type 0
PlaysBack air edition text after =
    ((has_plan air edition ≡ false) × (text ≡ not_installed_line edition) × (after ≡ air))
    ⊎ ((has_plan air edition ≡ true) × (text ≡ back_line edition) × (after ≡ going air (Some edition)))

-- the centre goes ahead to the newest edition
pub record PlaysAhead (air : AirState) (text : List ℕ) (after : AirState) : Type 0 where
  pub printed : text ≡ ahead_line
  pub goes : after ≡ going air None

-- the turn of the centre, which knows of all the plans that it has
abbrev pub turning : AirState → Event
turning air = Turn (target_of air)

-- the line of the turn
abbrev pub turn_text_by : Mark → Option EditionNo → EditionNo → List ℕ
turn_text_by mark None newest = turn_line mark newest
turn_text_by mark (Some edition) newest = back_turn_line mark edition

-- after the answer to an order that was asked to be placed: where it was placed, it joins the orders
abbrev pub once_answered : AirState → Reply → AirState
once_answered air reply.Placed = having air Ordered
once_answered air _ = air

-- the lines of that answer
abbrev pub answer_text : Net → AirState → Reply → List ℕ
answer_text net air reply.Placed = sends_text net air Ordered
answer_text net air answer = unplaced_line answer

-- the order that the turn wants, if any, is asked to be placed, and nothing else is asked
abbrev pub PlaysOrder : Net → AirState → Option Order → List Entry → List ℕ → AirState → Type 0
PlaysOrder net air None [] text after = (text ≡ []) × (after ≡ air)
PlaysOrder net air (Some order) (entry ∷ []) text after =
    (entry.call ≡ call.Place order) × (text ≡ order_line order ++ answer_text net air entry.reply) × (after ≡ once_answered air entry.reply)
PlaysOrder net air _ _ text after = ⊥

-- the turn of the centre, and then the order that it wants
pub record PlaysTurning (net : Net) (air : AirState) (entries : List Entry) (text : List ℕ) (after : AirState) : Type 0 where
  pub rest : List ℕ
  pub placed : PlaysOrder net (having air (turning air)) (wanted_in (having air (turning air))) entries rest after
  pub printed : text ≡ turn_text_by (mark_of air) (back_of air) (newest_in air) ++ sends_text net air (turning air) ++ rest

-- the book is asked for a plan newer than those that the centre has, and then the centre has its turn
pub record TakesTurn (net : Net) (air : AirState) (entries : List Entry) (text : List ℕ) (after : AirState) : Type 0 where
  pub asked : Entry
  pub others : List Entry
  pub all : entries ≡ asked ∷ others
  pub newer : Option Plan
  pub call : asked.call ≡ call.Newest (newest_in air)
  pub reply : asked.reply ≡ reply.Newest newer
  pub turned : PlaysTurning net (installing air newer) others text after

-- The centre has its turn, where it has heard that a superframe began; else it has none, and asks nothing of the book.
abbrev pub PlaysTurnIf : Bool → Net → AirState → List Entry → List ℕ → AirState → Type 0
PlaysTurnIf true net air entries text after = TakesTurn net air entries text after
PlaysTurnIf false net air entries text after = (entries ≡ []) × (text ≡ turn_nomark_line) × (after ≡ air)

abbrev pub PlaysTurn : Net → AirState → List Entry → List ℕ → AirState → Type 0
PlaysTurn net air entries text after = PlaysTurnIf (is_marked air) net air entries text after

-- A line that only a simulated air has was played. With sites apart it does nothing, and nothing is printed.
abbrev pub PlaysSimulated : (SimulatedAir → List ℕ → SimulatedAir → Type 0) → AirState → List ℕ → AirState → Type 0
PlaysSimulated plays (Simulated a) text after = (over : SimulatedAir) × plays a text over × (after ≡ Simulated over)
PlaysSimulated plays (Apart a) text after = (text ≡ []) × (after ≡ Apart a)

-- What a line makes happen: the centre's worker asks the book what these entries ask, these lines are printed, and the air is
-- so after it.
abbrev pub PlaysAirLine : Net → AirState → AirLine → List Entry → List ℕ → AirState → Type 0
PlaysAirLine net air line.Tick entries text after = (entries ≡ []) × PlaysSimulated (PlaysTick net) air text after
PlaysAirLine net air line.Turn entries text after = PlaysTurn net air entries text after
PlaysAirLine net air (line.Back edition) entries text after = (entries ≡ []) × PlaysBack air edition text after
PlaysAirLine net air line.Ahead entries text after = (entries ≡ []) × PlaysAhead air text after
PlaysAirLine net air line.Flow entries text after = (entries ≡ []) × PlaysSimulated (PlaysFlow net) air text after
PlaysAirLine net air (line.Lose losing) entries text after = (entries ≡ []) × PlaysSimulated (λ a. PlaysLoss a losing) air text after
PlaysAirLine net air (line.Deliver number place) entries text after = (entries ≡ []) × PlaysSimulated (λ a. PlaysDelivery net a number place) air text after
PlaysAirLine net air line.Frame entries text after = (entries ≡ []) × PlaysSimulated (PlaysFrame net) air text after
PlaysAirLine net air (line.Reset terminal) entries text after = (entries ≡ []) × PlaysSimulated (λ a. PlaysReset net a terminal) air text after
PlaysAirLine net air (line.StandbyHears number) entries text after = (entries ≡ []) × PlaysSimulated (λ a. PlaysNotice a number) air text after
PlaysAirLine net air line.StandbyBurst entries text after = (entries ≡ []) × PlaysSimulated (PlaysBurst net) air text after

-- the same for lines one after the other
abbrev pub PlaysAirLines : Net → AirState → List AirLine → List Entry → List ℕ → AirState → Type 0
PlaysAirLines net air [] entries text after = (entries ≡ []) × (text ≡ []) × (after ≡ air)
PlaysAirLines net air (first ∷ lines) entries text after =
    (between : AirState) × (own : List Entry) × (others : List Entry) × (begun : List ℕ) × (rest : List ℕ)
    × PlaysAirLine net air first own begun between × PlaysAirLines net between lines others rest after
    × (entries ≡ own ++ others) × (text ≡ begun ++ rest)
