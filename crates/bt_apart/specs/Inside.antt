-- What holds of the centre of sites apart, so that each message that it says has a line and a spelling. All of it is for bodies alone.
use Rattle.std.specs.Prelude.{◌≡◌, ℕ, ◌+◌, List, length, reverse, All, IfSome}
use Rattle.bt_net.specs.Network.{Net, IsSound}
use Rattle.bt_demand.specs.declared.plan.Plan.{Plan}
use Rattle.bt_demand.specs.Flyable.{IsFlyable}
use Rattle.bt_air.specs.declared.order.Order.{Order}
use Rattle.bt_air.specs.declared.sent.Aired.{Aired}
use Rattle.bt_air.specs.Orders.{command_of}
use Rattle.bt_air.specs.Range.{IsInRange, IsMark, IsStatus}
use Rattle.bt_air.specs.Sent.{sent_as}
use Rattle.bt_machines.specs.Centre.{State as Centre, AreNumbered}
use Rattle.bt_machines.specs.Plans.{IsStored, StartsEmpty}
use Rattle.bt_machines.specs.Says.{carried}
use Rattle.bt_site.specs.Address.{IsAddressed}
use Rattle.bt_site.specs.Fits.{HasPlan, IsInTime, IsOpening}
use Rattle.bt_timeline.specs.Air.{NamesTerminal}
use Rattle.bt_apart.specs.Apart.{ApartAir, IsInstalled, IsTimely}

-- the order may join those that are placed: it has the number after them, an edition that has a plan, and is timely
pub record MayJoin (plans : List Plan) (placed : List Order) (order : Order) : Type 0 where
  pub number : (command_of order).0 ≡ length placed + 1
  pub timely : IsTimely order
  pub planned : HasPlan plans order

-- what holds of the centre by its table: its orders and the one that it wants have a spelling, and so has the status that it keeps
pub record IsReady (plans : List Plan) (s : Centre) : Type 0 where
  pub numbered : AreNumbered s.orders
  pub in_time : All IsInTime s.orders
  pub planned : All (HasPlan plans) s.orders
  pub next : IfSome s.wanted (MayJoin plans s.orders)
  pub kept : IfSome s.kept IsStatus

-- what holds of it with the number of its terminals and its plans, the first first, as they are kept beside it
pub record IsApart (a : ApartAir) (count : ℕ) (kept : List Plan) : Type 0 where
  pub sound : IsSound a.opening.net
  pub opening : IsOpening a.opening
  pub opened : All IsStored a.opening.plans
  pub terminals : count ≡ length a.opening.net.terminals
  pub listed : kept ≡ reverse a.plans
  pub starts : StartsEmpty a.plans
  pub flyable : All (IsFlyable a.opening.net) a.plans
  pub stored : All IsStored a.plans
  pub ready : IsReady a.plans a.centre
  pub mark : IsMark a.mark
  pub back : IfSome a.back (IsInstalled a.plans)

-- a message that has a line and, with what the plans have for it, a spelling
pub record IsSayable (net : Net) (plans : List Plan) (one : Aired) : Type 0 where
  pub names : NamesTerminal net (sent_as one)
  pub addressed : IsAddressed (length net.terminals) one
  pub in_range : IsInRange (carried plans one)
