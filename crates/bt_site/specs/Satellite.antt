-- The satellite of a world: what happened to it, and its state after that.
use Rattle.std.specs.Prelude.{◌≡◌, List, [], ◌∷◌, Option, Some, None}
use Rattle.bt_demand.specs.declared.plan.Plan.{Plan}
use Rattle.bt_air.specs.declared.sent.Place.{Place}
use Rattle.bt_air.specs.declared.sent.Place.TheVariants.{Satellite}
use Rattle.bt_air.specs.declared.sent.Aired.{Aired}
use Rattle.bt_machines.specs.Satellite.{State, new_at}
use Rattle.bt_machines.specs.SatelliteRun.{SatelliteEvent, Begins, Hears as Takes, oldest_first, state_after}
use Rattle.bt_site.specs.Event.{Opening, Happening, Ticks, Hears}
use Rattle.bt_site.specs.World.{greatest_due, plans}
use Rattle.bt_machines.specs.Plans.{plan_of, modes_of}
use Rattle.bt_machines.specs.Says.{carried}

-- what happened to the satellite, with a message that it heard, if there is one
abbrev pub with_message : List Plan → Option Aired → List SatelliteEvent → List SatelliteEvent
with_message all None before = before
with_message all (Some sent) before = Takes (carried all sent) ∷ before

-- what happened to the satellite, after a delivery
abbrev pub delivered : List Plan → Option Aired → Place → List SatelliteEvent → List SatelliteEvent
delivered all sent Satellite before = with_message all sent before
delivered all sent _ before = before

-- what happened to the satellite in a world, the latest first
abbrev pub to_satellite : Opening → List Happening → List SatelliteEvent
to_satellite o [] = []
to_satellite o (Ticks ∷ past) = Begins ∷ to_satellite o past
to_satellite o (Hears sent place ∷ past) = delivered (plans o past) sent place (to_satellite o past)
to_satellite o (_ ∷ past) = to_satellite o past

-- the state of the satellite of a world
abbrev pub satellite : Opening → List Happening → State
satellite o past = state_after (new_at (record { 0 = greatest_due o.orders })) (oldest_first (to_satellite o past))

-- each bank holds the modes of the plan of its edition
pub record BanksHold (all : List Plan) (s : State) : Type 0 where
  pub fore : s.fore.modes ≡ modes_of (plan_of all s.fore.edition)
  pub back : s.back.modes ≡ modes_of (plan_of all s.back.edition)
