-- What a step of the centre makes of its state, by the plans and by what it hears.
use Rattle.std.specs.Prelude.{ℕ, if◌then◌else◌, Bool, List, [], ◌∷◌, filter, Option, Some, None}
use Rattle.bt_frame.specs.declared.numbers.TermNo.{TermNo}
use Rattle.bt_frame.specs.declared.numbers.TermSet.{TermSet}
use Rattle.bt_demand.specs.declared.plan.Plan.{Plan}
use Rattle.bt_air.specs.declared.order.Order.{Order}
use Rattle.bt_air.specs.declared.order.Order.TheVariants.{Load}
use Rattle.bt_air.specs.declared.sent.Aired.{Aired}
use Rattle.bt_air.specs.declared.sent.Aired.TheVariants as sends
use Rattle.bt_machines.specs.Centre.{State, begins_with, having_confirmed, having_lost, having_noted, having_placed}
use Rattle.bt_machines.specs.Last.{last_order}
use Rattle.bt_machines.specs.Plans.{has_burst, plan_of}
use Rattle.bt_machines.specs.Terminals.{no_terminal, with_terminal}

-- the set of these terminals
abbrev pub set_of : List TermNo → TermSet
set_of [] = no_terminal
set_of (terminal ∷ others) = with_terminal (set_of others) terminal

-- those of these terminals that transmit in the edition of an order, a Load
abbrev pub needed_by : List TermNo → List Plan → Option Order → TermSet
needed_by everyone all (Some (Load command edition)) = set_of (filter (has_burst (plan_of all edition)) everyone)
needed_by everyone all _ = no_terminal

-- the state once an order is placed, if there is one
abbrev pub once_placed : State → List TermNo → List Plan → Option Order → State
once_placed s everyone all None = s
once_placed s everyone all (Some order) = having_placed s order (needed_by everyone all (Some order))

-- the state once a message is heard
abbrev pub once_heard : State → ℕ → Option Aired → State
once_heard s now (Some (sends.Status status)) = having_noted s status
once_heard s now (Some (sends.Confirm from load edition)) = having_confirmed s now from load edition
once_heard s now (Some (sends.Lost from)) = having_lost s from
once_heard s now _ = s

-- the orders with the one that is wanted, if one is
abbrev pub with_wanted : Option Order → List Order → List Order
with_wanted None all = all
with_wanted (Some order) all = order ∷ all

-- the state once the centre begins with these orders
abbrev pub beginning : List TermNo → List Plan → List Order → State
beginning everyone all placed = begins_with placed (needed_by everyone all (last_order placed))

-- the orders from which the centre restarts: those that were placed, and the one that it wanted where that was kept
abbrev pub orders_kept : State → Bool → List Order
orders_kept s kept = if kept then with_wanted s.wanted s.orders else s.orders
