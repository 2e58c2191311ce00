-- What is said of worlds, of messages and of bytes, as these proofs cite it.
use Rattle.std.proofs.Common.{◌≡◌, List, ◌∷◌, All, Option, Some, Ok}
use Rattle.bt_frame.specs.declared.numbers.EditionNo.{EditionNo}
use Rattle.bt_frame.specs.declared.numbers.TermNo.{TermNo}
use Rattle.bt_net.specs.Network.{IsSound}
use Rattle.bt_demand.specs.declared.plan.Plan.{Plan}
use Rattle.bt_air.specs.declared.message.Message.{Message}
use Rattle.bt_air.specs.declared.sent.Aired.{Aired}
use Rattle.bt_air.specs.declared.sent.Place.TheVariants.{Satellite, Terminal}
use Rattle.bt_air.specs.MessageText.{message_of}
use Rattle.bt_air.specs.Range.{IsInRange}
use Rattle.bt_air.specs.Spelling.{message_bytes}
use Rattle.bt_machines.specs.Orders.{telling}
use Rattle.bt_machines.specs.Satellite.{status_of, step_of as take}
use Rattle.bt_machines.specs.Terminal.{step_of as hear}
use Rattle.bt_machines.specs.Says.{carried, confirmed_by, told_by}
use Rattle.bt_site.specs.Centre.{IsCentreSaid, centre}
use Rattle.bt_site.specs.Event.{Opening, Event, Second, Happening, Seconds as Happens_second}
use Rattle.bt_site.specs.Fits.{AreStored, IsWorld, Meets}
use Rattle.bt_site.specs.Ground.{terminal}
use Rattle.bt_site.specs.Laws.{IsCarriedAlike}
use Rattle.bt_site.specs.Satellite.{satellite}
use Rattle.bt_site.specs.World.{accepted, comes_to, log, mark, plans, sent, sent_by_hearing}

pub record Cited : Type 0 where
  pub on_mark : (o : Opening) (past : List Happening) → (satellite o past).mark.0 ≡ mark o past
  pub on_status : (o : Opening) (past : List Happening) → status_of (satellite o past) ≡ telling (accepted o past) (mark o past)
  pub satellite_answers : (o : Opening) (past : List Happening) (one : Aired) → sent_by_hearing o past (Some one) Satellite ≡ told_by (take (satellite o past) (carried (plans o past) one))
  pub terminal_answers : (o : Opening) (past : List Happening) (one : Aired) (to : TermNo)
      → sent_by_hearing o past (Some one) (Terminal to) ≡ confirmed_by to one (hear (terminal o past to) (record { 0 = mark o past }) (carried (plans o past) one))
  pub centre_said : (o : Opening) (events : List Event) → IsSound o.net → IsWorld o events → AreStored o (log o events) → IsCentreSaid o (log o events) (centre o (log o events))
  pub in_range : (o : Opening) (events : List Event) → IsSound o.net → IsWorld o events → AreStored o (log o events)
      → All (λ (one : Aired). IsInRange (carried (plans o (log o events)) one)) (sent o (log o events))
  pub reads : (message : Message) → IsInRange message → message_of (message_bytes message) ≡ Ok message
  pub second_said : (o : Opening) (past : List Happening) (in_force : Option EditionNo) → Meets o past (Second in_force) → comes_to o past (Second in_force) ≡ Happens_second in_force
  pub carried_alike : (o : Opening) (events : List Event) (plan : Plan) → IsWorld o events → All (IsCarriedAlike (plan ∷ plans o (log o events)) (plans o (log o events))) (sent o (log o events))
