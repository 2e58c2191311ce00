-- What must hold of an opening and of each event.
use Rattle.std.specs.Prelude.{◌≡◌, ◌<◌, ◌≤◌, true, false, List, [], ◌∷◌, length, All, IsSome, IfSome}
use Rattle.bt_frame.specs.declared.limits.TheConstants.{LAST_MARK, MOST_COUNTED}
use Rattle.bt_demand.specs.declared.plan.Plan.{Plan}
use Rattle.bt_air.specs.declared.order.Order.{Order}
use Rattle.bt_air.specs.declared.order.Order.TheVariants.{Load, Arm}
use Rattle.bt_air.specs.declared.sent.Place.{Place}
use Rattle.bt_air.specs.declared.sent.Place.TheVariants.{Satellite, Centre, Terminal}
use Rattle.bt_machines.specs.Centre.{AreNumbered}
use Rattle.bt_site.specs.Event.{Opening, Event, Tick, Turn, Second, Ordered, Deliver, Frame, ResetTerminal, RestartCentre, Install, Happening}
use Rattle.bt_site.specs.World.{mark, frames_shown, plans, wanted, orders, sent, is_told, log}
use Rattle.bt_machines.specs.Plans.{plan_of, StartsEmpty, newest_of, IsStored}
use Rattle.bt_demand.specs.Flyable.{IsFlyable}
use Rattle.bt_air.specs.Orders.{edition_ordered}
use Rattle.bt_air.specs.Range.{IsWord}
use Rattle.bt_net.specs.Terminals.{IsTerminal}

-- there is a plan of the edition of the order
abbrev pub HasPlan : List Plan → Order → Type 0
HasPlan all order = IsSome (plan_of all (edition_ordered order))

-- no order arms for a superframe past the last mark
abbrev pub IsInTime : Order → Type 0
IsInTime (Load command edition) = Unit {0}
IsInTime (Arm command edition due) = due.0 ≤ LAST_MARK

-- What must hold of an opening: editions ascend from the empty plan, each plan can be flown, and the orders are
-- numbered, each for an edition that has a plan.
pub record IsOpening (o : Opening) : Type 0 where
  pub starts : StartsEmpty o.plans
  pub fit : All (IsFlyable o.net) o.plans
  pub numbered : AreNumbered o.orders
  pub planned : All (HasPlan o.plans) o.orders
  pub in_time : All IsInTime o.orders
  pub few : length o.orders ≤ MOST_COUNTED

-- a place of the network
abbrev pub IsPlace : Opening → Place → Type 0
IsPlace o Satellite = Unit {0}
IsPlace o Centre = Unit {0}
IsPlace o (Terminal terminal) = IsTerminal o.net terminal

-- what must hold of an event of each kind
abbrev pub Meets : Opening → List Happening → Event → Type 0
Meets o past Tick = mark o past < LAST_MARK
Meets o past (Turn target) = IsSome (plan_of (plans o past) target)
Meets o past (Second in_force) = IfSome in_force (λ edition. is_told (sent o past) (mark o past) edition ≡ true)
Meets o past Ordered = IsSome (wanted past)
Meets o past (Deliver number place) = (number < length (sent o past)) × IsPlace o place
Meets o past Frame = frames_shown past < o.net.frames
Meets o past (ResetTerminal terminal) = IsTerminal o.net terminal
Meets o past (RestartCentre true) = IsSome (wanted past)
Meets o past (RestartCentre false) = Unit {0}
Meets o past (Install plan) = ((newest_of (plans o past)).0 < plan.edition.0) × IsFlyable o.net plan

-- a world: an opening, and events of which each meets what must hold of it
abbrev pub IsWorld : Opening → List Event → Type 0
IsWorld o [] = IsOpening o
IsWorld o (event ∷ earlier) = Meets o (log o earlier) event × IsWorld o earlier

-- no number of a world is too great for its messages: the plans are stored ones, and the orders fit four bytes
pub record AreStored (o : Opening) (past : List Happening) : Type 0 where
  pub plans : All IsStored (plans o past)
  pub orders : IsWord (length (orders o past))
