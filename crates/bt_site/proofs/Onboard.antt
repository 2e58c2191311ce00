-- The satellite of a world is what its accepted orders say.
use Rattle.std.proofs.Common.{◌≡◌, ℕ, ◌+◌, List, [], ◌∷◌, ◌++◌, Option, Some, None, refl, ◌∙◌, ap, subst}
use Rattle.bt_frame.specs.declared.numbers.Mark.{Mark}
use Rattle.bt_demand.specs.declared.plan.Plan.{Plan}
use Rattle.bt_air.specs.declared.order.Order.{Order}
use Rattle.bt_air.specs.declared.sent.Place.{Place}
use Rattle.bt_air.specs.declared.sent.Place.TheVariants.{Satellite, Centre, Terminal}
use Rattle.bt_air.specs.declared.sent.Aired.{Aired}
use Rattle.bt_machines.specs.Satellite.{new_at, status_of}
use Rattle.bt_machines.specs.SatelliteRun.{SatelliteEvent as Happens, state_after, mark_after, orders_after, oldest_first}
use Rattle.bt_machines.specs.Orders.{StandsFor, telling}
use Rattle.bt_site.specs.Event.{Opening, Happening, Ticks, Turns, Seconds, Orders, Hears, Shows, Resets, Restarts, Installs}
use Rattle.bt_site.specs.World.{greatest_due, mark, plans, joins, accepted}
use Rattle.bt_site.specs.Satellite.{delivered, to_satellite, satellite}

-- the superframe and the accepted orders of the world are those of what happened to the satellite
heard-mark : (opening : ℕ) (all : List Plan) (sent : Option Aired) (place : Place) (before : List Happens) → mark_after opening (delivered all sent place before) ≡ mark_after opening before
heard-mark opening all None Satellite before = refl
heard-mark opening all (Some sent) Satellite before = refl
heard-mark opening all sent Centre before = refl
heard-mark opening all sent (Terminal to) before = refl

pub mark-same : (o : Opening) (past : List Happening) → mark_after (greatest_due o.orders) (to_satellite o past) ≡ mark o past
mark-same o [] = refl
mark-same o (Ticks ∷ past) = ap (λ (n : ℕ). n + 1) (mark-same o past)
mark-same o (Turns target act ∷ past) = mark-same o past
mark-same o (Seconds in_force ∷ past) = mark-same o past
mark-same o (Orders ∷ past) = mark-same o past
mark-same o (Hears sent place ∷ past) = heard-mark (greatest_due o.orders) (plans o past) sent place (to_satellite o past) ∙ mark-same o past
mark-same o (Shows ∷ past) = mark-same o past
mark-same o (Resets terminal ∷ past) = mark-same o past
mark-same o (Restarts kept ∷ past) = mark-same o past
mark-same o (Installs plan ∷ past) = mark-same o past

heard-joined : (opening : ℕ) (all : List Plan) (sent : Option Aired) (place : Place) (before : List Happens)
    → orders_after opening (delivered all sent place before) ≡ joins (orders_after opening before) (mark_after opening before) all sent place ++ orders_after opening before
heard-joined opening all None Satellite before = refl
heard-joined opening all (Some sent) Satellite before = refl
heard-joined opening all sent Centre before = refl
heard-joined opening all sent (Terminal to) before = refl

pub orders-same : (o : Opening) (past : List Happening) → orders_after (greatest_due o.orders) (to_satellite o past) ≡ accepted o past
orders-same o [] = refl
orders-same o (Ticks ∷ past) = orders-same o past
orders-same o (Turns target act ∷ past) = orders-same o past
orders-same o (Seconds in_force ∷ past) = orders-same o past
orders-same o (Orders ∷ past) = orders-same o past
orders-same o (Hears sent place ∷ past) = heard-joined (greatest_due o.orders) (plans o past) sent place (to_satellite o past)
    ∙ ap (λ (n : ℕ). joins (orders_after (greatest_due o.orders) (to_satellite o past)) n (plans o past) sent place ++ orders_after (greatest_due o.orders) (to_satellite o past)) (mark-same o past)
    ∙ ap (λ (list : List Order). joins list (mark o past) (plans o past) sent place ++ list) (orders-same o past)
orders-same o (Shows ∷ past) = orders-same o past
orders-same o (Resets terminal ∷ past) = orders-same o past
orders-same o (Restarts kept ∷ past) = orders-same o past
orders-same o (Installs plan ∷ past) = orders-same o past

-- by what holds of every run of a satellite
module _
    (run_mark : (mark : Mark) (latest : List Happens) → (state_after (new_at mark) (oldest_first latest)).mark.0 ≡ mark_after mark.0 latest)
    (run_stands : (mark : Mark) (latest : List Happens) → StandsFor (orders_after mark.0 latest) (state_after (new_at mark) (oldest_first latest)))
    (run_status : (mark : Mark) (latest : List Happens) → status_of (state_after (new_at mark) (oldest_first latest)) ≡ telling (orders_after mark.0 latest) (mark_after mark.0 latest))
  where
    -- the superframe in which the satellite opens
    abbrev opened : Opening → Mark
    opened o = record { 0 = greatest_due o.orders }

    -- its superframe is the world's
    pub onboard-mark : (o : Opening) (past : List Happening) → (satellite o past).mark.0 ≡ mark o past
    onboard-mark o past = run_mark (opened o) (to_satellite o past) ∙ mark-same o past

    -- it is what the accepted orders say
    pub onboard : (o : Opening) (past : List Happening) → StandsFor (accepted o past) (satellite o past)
    onboard o past = subst (λ (list : List Order). StandsFor list (satellite o past)) (orders-same o past) (run_stands (opened o) (to_satellite o past))

    -- it says of itself what they tell
    pub onboard-status : (o : Opening) (past : List Happening) → status_of (satellite o past) ≡ telling (accepted o past) (mark o past)
    onboard-status o past =
        run_status (opened o) (to_satellite o past)
        ∙ ap (λ (list : List Order). telling list (mark_after (greatest_due o.orders) (to_satellite o past))) (orders-same o past)
        ∙ ap (λ (n : ℕ). telling (accepted o past) n) (mark-same o past)
