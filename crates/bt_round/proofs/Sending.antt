-- Each terminal that a message of a world names is one of the network's.
use Rattle.std.proofs.Common.{ℕ, ◌<◌, Bool, true, false, if◌then◌else◌, ◌==◌, List, [], ◌∷◌, length, filter, Option, Some, None, All, arith}
use Rattle.std.specs.List.{range_with_len}
use Rattle.std.proofs.lemmas.List.Elements.{All-append, All-cons, All-filter, All-from_get_or, All-map, All-nil}
use Rattle.std.proofs.lemmas.List.FromFn.{get_or-range_with_len, length-range_with_len}
use Rattle.bt_frame.specs.declared.numbers.EditionNo.{EditionNo}
use Rattle.bt_frame.specs.declared.numbers.TermNo.{TermNo}
use Rattle.bt_net.specs.Network.{Net}
use Rattle.bt_net.specs.Terminals.{IsTerminal}
use Rattle.bt_demand.specs.declared.plan.Plan.{Plan}
use Rattle.bt_air.specs.declared.order.Order.{Order}
use Rattle.bt_air.specs.declared.order.Order.TheVariants as order
use Rattle.bt_air.specs.declared.sent.Act.{Act}
use Rattle.bt_air.specs.declared.sent.Act.TheVariants.{Quiet, RepeatLoad, RepeatArm, Want}
use Rattle.bt_air.specs.declared.sent.Place.{Place}
use Rattle.bt_air.specs.declared.sent.Place.TheVariants.{Satellite, Centre, Terminal}
use Rattle.bt_air.specs.declared.sent.Aired.{Aired}
use Rattle.bt_air.specs.declared.sent.Aired.TheVariants as sends
use Rattle.bt_frame.specs.declared.numbers.Command.{Command}
use Rattle.bt_machines.specs.Last.{load_of}
use Rattle.bt_machines.specs.declared.burst_bank.Holding.{Holding}
use Rattle.bt_machines.specs.Said.{load_in}
use Rattle.bt_site.specs.Event.{Opening, Event, Tick, Turn, Second, Ordered, Deliver, Frame, ResetTerminal, RestartCentre, Install, Happening}
use Rattle.bt_site.specs.Fits.{IsPlace, IsWorld, Meets}
use Rattle.bt_site.specs.World.{accepted, act, announced, comes_to, held, held_by, is_asking, is_missing, joins, known_now, last_heard, log, mark, orders, plans, sent, sent_by_hearing, sent_by_satellite, sent_by_terminal, sent_with, terminals, wanted, where_told}
use Rattle.bt_machines.specs.Says.{confirms, last_plans, order_again, plans_for, sent_by_act, sent_by_order, sent_to_asking}
use Rattle.bt_machines.specs.Plans.{has_burst, plan_of}
use Rattle.bt_round.specs.Worker.{NamesOwn}

below : (n : ℕ) → All (λ (k : ℕ). k < n) (range_with_len 0 n)
below n = All-from_get_or (λ (k : ℕ). k < n) (range_with_len 0 n) 0 (λ i within.
    let small : i < n = omega (arith, within, length-range_with_len 0 n) in
    omega (arith, get_or-range_with_len 0 n i 0 small, small))

-- the terminals of a network are the network's
pub terminals-own : (o : Opening) → All (IsTerminal o.net) (terminals o)
terminals-own o = All-map (IsTerminal o.net) (λ (n : ℕ). record { 0 = n }) (range_with_len 0 (length o.net.terminals)) (below (length o.net.terminals))

some-own : (o : Opening) (test : TermNo → Bool) (these : List TermNo) → All (IsTerminal o.net) these → All (IsTerminal o.net) (filter test these)
some-own o test these all = All-filter test (IsTerminal o.net) these all

plans-name : (net : Net) (to : List TermNo) (load : Command) (edition : EditionNo) → All (IsTerminal net) to → All (NamesOwn net) (plans_for to load edition)
plans-name net to load edition all = All-map (NamesOwn net) (λ (terminal : TermNo). sends.PlanFor terminal load edition) to all

one-names : (net : Net) (one : Aired) → NamesOwn net one → All (NamesOwn net) (one ∷ [])
one-names net one names = All-cons (NamesOwn net) one [] names (All-nil (NamesOwn net))

again-names : (net : Net) (all : List Order) → All (NamesOwn net) (order_again all)
again-names net [] = All-nil (NamesOwn net)
again-names net (order.Load command edition ∷ earlier) = one-names net (sends.Load command edition) tt
again-names net (order.Arm command edition due ∷ earlier) = one-names net (sends.Arm command edition due) tt

last-names : (net : Net) (all : List Order) (to : List TermNo) → All (IsTerminal net) to → All (NamesOwn net) (last_plans all to)
last-names net [] to own = All-nil (NamesOwn net)
last-names net (order.Load command edition ∷ earlier) to own = plans-name net to command edition own
last-names net (order.Arm command edition due ∷ earlier) to own = All-nil (NamesOwn net)

act-names : (net : Net) (all : List Order) (missing : List TermNo) (did : Act) → All (IsTerminal net) missing → All (NamesOwn net) (sent_by_act all missing did)
act-names net all missing Quiet own = All-nil (NamesOwn net)
act-names net all missing (RepeatLoad true) own = All-append (NamesOwn net) (order_again all) (last_plans all missing) (again-names net all) (last-names net all missing own)
act-names net all missing (RepeatLoad false) own = last-names net all missing own
act-names net all missing RepeatArm own = again-names net all
act-names net all missing (Want order) own = All-nil (NamesOwn net)

asking-names : (net : Net) (in_force : Option EditionNo) (placed : List Order) (all : List Plan) (asking : List TermNo) → All (IsTerminal net) asking → All (NamesOwn net) (sent_to_asking in_force placed all asking)
asking-names net None placed all asking own = All-nil (NamesOwn net)
asking-names net (Some edition) placed all asking own =
    plans-name net (filter (has_burst (plan_of all edition)) asking) (load_of placed edition) edition (All-filter (has_burst (plan_of all edition)) (IsTerminal net) asking own)

order-names : (net : Net) (all : List Plan) (everyone : List TermNo) (one : Option Order) → All (IsTerminal net) everyone → All (NamesOwn net) (sent_by_order all everyone one)
order-names net all everyone None own = All-nil (NamesOwn net)
order-names net all everyone (Some (order.Load command edition)) own =
    All-cons (NamesOwn net) (sends.Load command edition) (plans_for (filter (has_burst (plan_of all edition)) everyone) command edition) tt
    (plans-name net (filter (has_burst (plan_of all edition)) everyone) command edition (All-filter (has_burst (plan_of all edition)) (IsTerminal net) everyone own))
order-names net all everyone (Some (order.Arm command edition due)) own = one-names net (sends.Arm command edition due) tt

satellite-names : (net : Net) (joined before : List Order) (now : ℕ) → All (NamesOwn net) (sent_by_satellite joined before now)
satellite-names net [] before now = All-nil (NamesOwn net)
satellite-names net (first ∷ rest) before now = one-names net _ tt

confirm-names : (net : Net) (terminal : TermNo) (edition : EditionNo) (held : Option Command) → IsTerminal net terminal → All (NamesOwn net) (confirms terminal edition held)
confirm-names net terminal edition None own = All-nil (NamesOwn net)
confirm-names net terminal edition (Some load) own = one-names net (sends.Confirm terminal load edition) own

where-names : (net : Net) (test : Bool) (some : List Aired) → All (NamesOwn net) some → All (NamesOwn net) (if test then some else [])
where-names net true some own = own
where-names net false some own = All-nil (NamesOwn net)

terminal-names : (net : Net) (after : List Holding) (terminal : TermNo) (one : Option Aired) → IsTerminal net terminal → All (NamesOwn net) (sent_by_terminal after terminal one)
terminal-names net after terminal None own = All-nil (NamesOwn net)
terminal-names net after terminal (Some (sends.PlanFor for load edition)) own =
    where-names net (for.0 == terminal.0) (confirms terminal edition (load_in after edition)) (confirm-names net terminal edition (load_in after edition) own)
terminal-names net after terminal (Some (sends.Load command edition)) own = All-nil (NamesOwn net)
terminal-names net after terminal (Some (sends.Arm command edition due)) own = All-nil (NamesOwn net)
terminal-names net after terminal (Some (sends.Status status)) own = All-nil (NamesOwn net)
terminal-names net after terminal (Some (sends.Confirm from load edition)) own = All-nil (NamesOwn net)
terminal-names net after terminal (Some (sends.Reference superframe in_force next)) own = All-nil (NamesOwn net)
terminal-names net after terminal (Some (sends.Lost from)) own = All-nil (NamesOwn net)

hearing-names : (o : Opening) (past : List Happening) (one : Option Aired) (place : Place) → IsPlace o place → All (NamesOwn o.net) (sent_by_hearing o past one place)
hearing-names o past one Satellite own = satellite-names o.net (joins (accepted o past) (mark o past) (plans o past) one Satellite) (accepted o past) (mark o past)
hearing-names o past one Centre own = All-nil (NamesOwn o.net)
hearing-names o past one (Terminal to) own = terminal-names o.net (held_by (held o past to) (last_heard o past to) (mark o past) to one) to one own

-- each terminal that a message of an event names is the network's
pub event-names : (o : Opening) (past : List Happening) (event : Event) → Meets o past event → All (NamesOwn o.net) (sent_with o past (comes_to o past event))
event-names o past Tick meets = one-names o.net _ tt
event-names o past (Turn target) meets =
    All-cons (NamesOwn o.net) (sends.Reference (record { 0 = mark o past }) (known_now o past) (announced o past)) _ tt
    (All-append (NamesOwn o.net)
    (sent_by_act (orders o past) (filter (is_missing o past) (terminals o)) (act o past target))
    (sent_to_asking (known_now o past) (orders o past) (plans o past) (filter (is_asking o past) (terminals o)))
    (act-names o.net (orders o past) (filter (is_missing o past) (terminals o)) (act o past target) (some-own o (is_missing o past) (terminals o) (terminals-own o)))
    (asking-names o.net (known_now o past) (orders o past) (plans o past) (filter (is_asking o past) (terminals o)) (some-own o (is_asking o past) (terminals o) (terminals-own o))))
event-names o past (Second in_force) meets = one-names o.net (sends.Reference (record { 0 = mark o past }) (where_told (sent o past) (mark o past) in_force) None) tt
event-names o past Ordered meets = order-names o.net (plans o past) (terminals o) (wanted past) (terminals-own o)
event-names o past (Deliver number place) meets = hearing-names o past _ place meets.1
event-names o past Frame meets = All-nil (NamesOwn o.net)
event-names o past (ResetTerminal terminal) meets = one-names o.net (sends.Lost terminal) meets
event-names o past (RestartCentre kept) meets = All-nil (NamesOwn o.net)
event-names o past (Install plan) meets = All-nil (NamesOwn o.net)

-- each terminal that a message of a world names is the network's
pub all-name : (o : Opening) (events : List Event) → IsWorld o events → All (NamesOwn o.net) (sent o (log o events))
all-name o [] world = All-nil (NamesOwn o.net)
all-name o (event ∷ earlier) world =
    All-append (NamesOwn o.net) (sent o (log o earlier)) (sent_with o (log o earlier) (comes_to o (log o earlier) event))
    (all-name o earlier world.1) (event-names o (log o earlier) event world.0)
