-- A world as its events say it. Lists of events, of what they came to, of orders and of plans have the latest first;
-- the list of messages has the first first, since messages are numbered.
use Rattle.std.specs.Prelude.{ℕ, ◌+◌, ◌==◌, ◌&&◌, ◌||◌, not, if◌then◌else◌, max, Bool, true, false, List, [], ◌∷◌, ◌++◌, map, length, filter, slice_get, Option, Some, None}
use Rattle.std.specs.List.{range_with_len, list_any}
use Rattle.bt_frame.specs.declared.numbers.EditionNo.{EditionNo}
use Rattle.bt_frame.specs.declared.numbers.TermNo.{TermNo}
use Rattle.bt_demand.specs.declared.plan.Plan.{Plan}
use Rattle.bt_air.specs.declared.order.Armed.{Armed}
use Rattle.bt_air.specs.declared.order.Order.{Order}
use Rattle.bt_air.specs.declared.order.Order.TheVariants as order
use Rattle.bt_air.specs.declared.order.Status.{Status}
use Rattle.bt_air.specs.declared.sent.Act.{Act}
use Rattle.bt_air.specs.declared.sent.Place.{Place}
use Rattle.bt_air.specs.declared.sent.Place.TheVariants.{Satellite, Centre, Terminal}
use Rattle.bt_air.specs.declared.sent.Aired.{Aired}
use Rattle.bt_air.specs.declared.sent.Aired.TheVariants as sends
use Rattle.bt_site.specs.Event.{Opening, Event, Tick, Turn, Second, Ordered, Deliver, Frame, ResetTerminal, RestartCentre, Install, Happening, Ticks, Turns, Seconds, Orders, Hears, Shows, Resets, Restarts, Installs}
use Rattle.bt_machines.specs.Orders.{joining, telling}
use Rattle.bt_machines.specs.declared.turn.Turn.{Turn as Sight}
use Rattle.bt_air.specs.Editions.{names}
use Rattle.bt_machines.specs.declared.burst_bank.Holding.{Holding}
use Rattle.bt_machines.specs.declared.reference.Reference.{Reference}
use Rattle.bt_machines.specs.Said.{load_in, taking}
use Rattle.bt_machines.specs.Terminal.{in_force as named_by}
use Rattle.bt_machines.specs.Known.{known, later_of}
use Rattle.bt_machines.specs.Last.{last_order, is_load_numbered, next_of}
use Rattle.bt_machines.specs.Turn.{act_of, one_more, wanted_by}
use Rattle.bt_machines.specs.Plans.{plan_of, has_burst}
use Rattle.bt_machines.specs.Says.{carried, confirms, sent_by_act, sent_to_asking, sent_by_order}
use Rattle.bt_machines.specs.CentreSteps.{with_wanted}

-- the greatest superframe for which an order arms, or 0
abbrev pub greatest_due : List Order → ℕ
greatest_due [] = 0
greatest_due (order.Load command edition ∷ earlier) = greatest_due earlier
greatest_due (order.Arm command edition due ∷ earlier) = max due.0 (greatest_due earlier)

-- the present superframe
abbrev pub mark : Opening → List Happening → ℕ
mark o [] = greatest_due o.orders
mark o (Ticks ∷ past) = mark o past + 1
mark o (_ ∷ past) = mark o past

-- the frames of the present superframe that were shown
abbrev pub frames_shown : List Happening → ℕ
frames_shown [] = 0
frames_shown (Ticks ∷ past) = 0
frames_shown (Shows ∷ past) = frames_shown past + 1
frames_shown (_ ∷ past) = frames_shown past

-- the plans that are installed
abbrev pub plans : Opening → List Happening → List Plan
plans o [] = o.plans
plans o (Installs plan ∷ past) = plan ∷ plans o past
plans o (_ ∷ past) = plans o past

-- what a message that is delivered to the satellite joins to the accepted orders
abbrev pub joining_with : List Order → ℕ → List Plan → Option Aired → List Order
joining_with before now all None = []
joining_with before now all (Some sent) = joining before now (carried all sent)

-- what a delivery joins to the orders that the satellite accepted
abbrev pub joins : List Order → ℕ → List Plan → Option Aired → Place → List Order
joins before now all sent Satellite = joining_with before now all sent
joins before now all sent _ = []

-- the orders that the satellite accepted
abbrev pub accepted : Opening → List Happening → List Order
accepted o [] = []
accepted o (Hears sent place ∷ past) = joins (accepted o past) (mark o past) (plans o past) sent place ++ accepted o past
accepted o (_ ∷ past) = accepted o past

-- the order that the last turn wanted, where it was neither placed nor lost since
abbrev pub wanted : List Happening → Option Order
wanted [] = None
wanted (Turns target act ∷ past) = wanted_by act
wanted (Orders ∷ past) = None
wanted (Restarts kept ∷ past) = None
wanted (_ ∷ past) = wanted past

-- the orders that are placed
abbrev pub orders : Opening → List Happening → List Order
orders o [] = o.orders
orders o (Orders ∷ past) = with_wanted (wanted past) (orders o past)
orders o (Restarts true ∷ past) = with_wanted (wanted past) (orders o past)
orders o (_ ∷ past) = orders o past

-- the status that the centre keeps, once it has heard a message
abbrev pub noting : Option Status → Option Aired → Option Status
noting before (Some (sends.Status status)) = Some (later_of before status)
noting before _ = before

-- the status that the centre keeps after a delivery
abbrev pub keeping : Option Status → Option Aired → Place → Option Status
keeping before sent Centre = noting before sent
keeping before sent _ = before

-- the latest status that was delivered to the centre since its last start
abbrev pub kept : List Happening → Option Status
kept [] = None
kept (Hears sent place ∷ past) = keeping (kept past) sent place
kept (Restarts _ ∷ past) = None
kept (_ ∷ past) = kept past

-- the change that the centre announces: that of the last order, where this is an Arm that is due later
abbrev pub announced : Opening → List Happening → Option Armed
announced o past = next_of (last_order (orders o past)) (mark o past)

-- the edition in force, where the centre knows it
abbrev pub known_now : Opening → List Happening → Option EditionNo
known_now o past = known (kept past) (orders o past) (mark o past)

-- whether a terminal has confirmed, once the centre has heard a message
abbrev pub confirming_by : Bool → List Order → TermNo → Option Aired → Bool
confirming_by before all terminal (Some (sends.Confirm from load edition)) = from.0 == terminal.0 && is_load_numbered (last_order all) load || before
confirming_by before all terminal (Some (sends.Lost from)) = not (from.0 == terminal.0) && before
confirming_by before all terminal _ = before

-- whether a terminal has confirmed after a delivery
abbrev pub confirming : Bool → List Order → TermNo → Option Aired → Place → Bool
confirming before all terminal sent Centre = confirming_by before all terminal sent
confirming before all terminal sent _ = before

-- the terminal confirmed what came for the last order, a Load, after that order joined and since the centre's start, and was not lost since
abbrev pub is_confirmed : Opening → List Happening → TermNo → Bool
is_confirmed o [] terminal = false
is_confirmed o (Hears sent place ∷ past) terminal = confirming (is_confirmed o past terminal) (orders o past) terminal sent place
is_confirmed o (Orders ∷ past) terminal = false
is_confirmed o (Restarts _ ∷ past) terminal = false
is_confirmed o (_ ∷ past) terminal = is_confirmed o past terminal

-- whether a terminal asks, once the centre has heard a message
abbrev pub asks_by : Bool → Option EditionNo → TermNo → Option Aired → Bool
asks_by before in_force terminal (Some (sends.Confirm from load edition)) = not (from.0 == terminal.0 && names in_force edition) && before
asks_by before in_force terminal (Some (sends.Lost from)) = from.0 == terminal.0 || before
asks_by before in_force terminal _ = before

-- whether a terminal asks after a delivery
abbrev pub asks : Bool → Option EditionNo → TermNo → Option Aired → Place → Bool
asks before in_force terminal sent Centre = asks_by before in_force terminal sent
asks before in_force terminal sent _ = before

-- the terminal was lost since the centre's start, and has not since confirmed the edition that was in force
abbrev pub is_asking : Opening → List Happening → TermNo → Bool
is_asking o [] terminal = false
is_asking o (Hears sent place ∷ past) terminal = asks (is_asking o past terminal) (known_now o past) terminal sent place
is_asking o (Restarts _ ∷ past) terminal = false
is_asking o (_ ∷ past) terminal = is_asking o past terminal

-- the turns waited, with one more that found this wanted and kept
abbrev pub waited_more : Option Order → Option Status → ℕ → ℕ
waited_more None (Some status) before = one_more before
waited_more _ _ before = before

-- the turns since the last order joined and the centre's start that found no order wanted and a status kept, at most the most patience
abbrev pub waited : List Happening → ℕ
waited [] = 0
waited (Turns target act ∷ past) = waited_more (wanted past) (kept past) (waited past)
waited (Orders ∷ past) = 0
waited (Restarts _ ∷ past) = 0
waited (_ ∷ past) = waited past

-- the terminals of the network
abbrev pub terminals : Opening → List TermNo
terminals o = map (λ (n : ℕ). record { 0 = n }) (range_with_len 0 (length o.net.terminals))

-- the terminal transmits in the edition of the last order, a Load, and has not confirmed
abbrev pub is_missing_of : List Order → List Plan → Bool → TermNo → Bool
is_missing_of (order.Load command edition ∷ earlier) all confirmed terminal = has_burst (plan_of all edition) terminal && not confirmed
is_missing_of _ all confirmed terminal = false

-- the terminal has still to confirm the edition of the last order
abbrev pub is_missing : Opening → List Happening → TermNo → Bool
is_missing o past terminal = is_missing_of (orders o past) (plans o past) (is_confirmed o past terminal) terminal

-- what the centre goes by in a turn
abbrev pub sight : Opening → List Happening → EditionNo → Sight
sight o past target = record {
  mark = record { 0 = mark o past };
  target = target;
  lead = o.net.lead;
  patience = o.net.patience;
  waited = waited_more (wanted past) (kept past) (waited past);
  some_missing = list_any (is_missing o past) (terminals o);
  in_force = known_now o past;
}

-- what the centre does in a turn
abbrev pub act : Opening → List Happening → EditionNo → Act
act o past target = act_of (sight o past target) (wanted past) (kept past) (last_order (orders o past))

-- the Reference that was heard last, with one message more
abbrev pub heard_by : Option Reference → ℕ → Option Aired → Option Reference
heard_by before now (Some (sends.Reference superframe in_force next)) =
    if superframe.0 == now then Some (record { superframe = superframe; in_force = in_force; next = next }) else before
heard_by before now _ = before

-- the Reference that a terminal heard last, after a delivery
abbrev pub heard_more : Option Reference → ℕ → TermNo → Option Aired → Place → Option Reference
heard_more before now terminal sent (Terminal to) = if to.0 == terminal.0 then heard_by before now sent else before
heard_more before now terminal sent _ = before

-- the last Reference that came to the terminal in its own superframe, since the terminal last restarted
abbrev pub last_heard : Opening → List Happening → TermNo → Option Reference
last_heard o [] terminal = None
last_heard o (Resets other ∷ past) terminal = if other.0 == terminal.0 then None else last_heard o past terminal
last_heard o (Hears sent place ∷ past) terminal = heard_more (last_heard o past terminal) (mark o past) terminal sent place
last_heard o (_ ∷ past) terminal = last_heard o past terminal

-- the edition that it names, where it is of the present superframe
abbrev pub heard : Opening → List Happening → TermNo → Option EditionNo
heard o past terminal = named_by (last_heard o past terminal) (record { 0 = mark o past })

-- what a terminal holds, once it has heard a message
abbrev pub held_by : List Holding → Option Reference → ℕ → TermNo → Option Aired → List Holding
held_by before heard now terminal (Some (sends.PlanFor for load edition)) =
    if for.0 == terminal.0 then taking before heard now (record { load = load; edition = edition }) else before
held_by before heard now terminal _ = before

-- what a terminal holds after a delivery
abbrev pub held_more : List Holding → Option Reference → ℕ → TermNo → Option Aired → Place → List Holding
held_more before heard now terminal sent (Terminal to) = if to.0 == terminal.0 then held_by before heard now terminal sent else before
held_more before heard now terminal sent _ = before

-- the editions of which the terminal holds its bursts, each with the Load for which they came, since it last restarted
abbrev pub held : Opening → List Happening → TermNo → List Holding
held o [] terminal = []
held o (Resets other ∷ past) terminal = if other.0 == terminal.0 then [] else held o past terminal
held o (Hears sent place ∷ past) terminal = held_more (held o past terminal) (last_heard o past terminal) (mark o past) terminal sent place
held o (_ ∷ past) terminal = held o past terminal

-- the satellite tells its status where it accepted an order
abbrev pub sent_by_satellite : List Order → List Order → ℕ → List Aired
sent_by_satellite [] before now = []
sent_by_satellite (first ∷ rest) before now = sends.Status (telling (first ∷ rest ++ before) now) ∷ []

-- a terminal confirms what it holds
abbrev pub sent_by_terminal : List Holding → TermNo → Option Aired → List Aired
sent_by_terminal after terminal (Some (sends.PlanFor for load edition)) =
    if for.0 == terminal.0 then confirms terminal edition (load_in after edition) else []
sent_by_terminal after terminal _ = []

-- what the receiver of a message sends
abbrev pub sent_by_hearing : Opening → List Happening → Option Aired → Place → List Aired
sent_by_hearing o past sent Satellite = sent_by_satellite (joins (accepted o past) (mark o past) (plans o past) sent Satellite) (accepted o past) (mark o past)
sent_by_hearing o past sent Centre = []
sent_by_hearing o past sent (Terminal to) = sent_by_terminal (held_by (held o past to) (last_heard o past to) (mark o past) to sent) to sent

-- what is sent when something happens
abbrev pub sent_with : Opening → List Happening → Happening → List Aired
sent_with o past Ticks = sends.Status (telling (accepted o past) (mark o past + 1)) ∷ []
sent_with o past (Turns target act) =
    sends.Reference (record { 0 = mark o past }) (known_now o past) (announced o past)
    ∷ sent_by_act (orders o past) (filter (is_missing o past) (terminals o)) act
    ++ sent_to_asking (known_now o past) (orders o past) (plans o past) (filter (is_asking o past) (terminals o))
sent_with o past (Seconds in_force) = sends.Reference (record { 0 = mark o past }) in_force None ∷ []
sent_with o past Orders = sent_by_order (plans o past) (terminals o) (wanted past)
sent_with o past (Hears sent place) = sent_by_hearing o past sent place
sent_with o past Shows = []
sent_with o past (Resets terminal) = sends.Lost terminal ∷ []
sent_with o past (Restarts kept) = []
sent_with o past (Installs plan) = []

-- all messages that were sent, the first first
abbrev pub sent : Opening → List Happening → List Aired
sent o [] = []
sent o (happening ∷ past) = sent o past ++ sent_with o past happening

-- a Status of this superframe tells that this edition is in front
abbrev pub tells : ℕ → EditionNo → Aired → Bool
tells now edition (sends.Status status) = status.mark.0 == now && status.fore.0 == edition.0
tells now edition _ = false

-- some Status of this superframe was sent that tells that this edition is in front
abbrev pub is_told : List Aired → ℕ → EditionNo → Bool
is_told all now edition = list_any (tells now edition) all

-- the edition that is named, where a Status of this superframe told that it is in front
abbrev pub where_told : List Aired → ℕ → Option EditionNo → Option EditionNo
where_told all now None = None
where_told all now (Some edition) = if is_told all now edition then Some edition else None

-- what an event comes to
abbrev pub comes_to : Opening → List Happening → Event → Happening
comes_to o past Tick = Ticks
comes_to o past (Turn target) = Turns target (act o past target)
comes_to o past (Second in_force) = Seconds (where_told (sent o past) (mark o past) in_force)
comes_to o past Ordered = Orders
comes_to o past (Deliver number place) = Hears (slice_get (sent o past) number) place
comes_to o past Frame = Shows
comes_to o past (ResetTerminal terminal) = Resets terminal
comes_to o past (RestartCentre kept) = Restarts kept
comes_to o past (Install plan) = Installs plan

-- what the events came to
abbrev pub log : Opening → List Event → List Happening
log o [] = []
log o (event ∷ earlier) = comes_to o (log o earlier) event ∷ log o earlier
