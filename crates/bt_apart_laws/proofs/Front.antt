-- The plan in front on board is one that the centre has.
use Rattle.std.proofs.Common.{◌≡◌, ℕ, ◌+◌, true, false, List, [], ◌∷◌, ◌++◌, All, Option, Some, None, IfSome, sym, ap, ◌∙◌, subst, arith}
use Rattle.std.specs.Prelude.{IsSome}
use Rattle.std.proofs.lemmas.List.Elements.{All-tail}
use Rattle.bt_net.specs.Network.{IsSound, Net}
use Rattle.bt_frame.specs.declared.mode.Mode.{Mode}
use Rattle.bt_demand.specs.declared.burst.Burst.{Burst}
use Rattle.bt_demand.specs.declared.plan.Plan.{Plan}
use Rattle.bt_demand.specs.Flyable.{IsFlyable}
use Rattle.bt_air.specs.Range.{IsWord}
use Rattle.bt_machines.specs.Plans.{IsStored, modes_of, plan_of}
use Rattle.bt_machines.specs.Satellite.{State as Satellite}
use Rattle.bt_site.proofs.Banks.{world-banked}
use Rattle.bt_site.proofs.WorldPlans.{plan-holds, plans-flyable}
use Rattle.bt_site.specs.Air.{AreFlyable, IsSafe}
use Rattle.bt_site.specs.Event.{Event, Opening}
use Rattle.bt_site.specs.Fits.{IsWorld}
use Rattle.bt_site.specs.Satellite.{BanksHold, satellite}
use Rattle.bt_site.specs.World.{log, plans}
use Rattle.bt_sites.specs.Behind.{HasWorldBehind}
use Rattle.bt_sites.specs.Fits.{AreSites, AreSmall, order_count}
use Rattle.bt_sites.specs.Late.{AreLate, HasOrder, Late, now_of, steps_of}
use Rattle.bt_sites.specs.Sites.{plans_after, satellite_after}
use Rattle.bt_sites.specs.Stamps.{Act, AreStamped, joined, late_of, made_in, step_by, steps_by}
use Rattle.bt_sites.specs.Step.{Step}
use Rattle.bt_sites.specs.Step as step
use Rattle.bt_apart.specs.Apart.{ApartAir}
use Rattle.bt_apart_laws.specs.Acts.{IsCentreAt, IsPlanInFront, IsSafeInFront}

found-front : (air : ApartAir) (s : Satellite) (found : Option Plan) → plan_of air.plans s.fore.edition ≡ found → IsSome found → s.fore.modes ≡ modes_of found
    → IfSome found (IsFlyable air.opening.net) → IsPlanInFront air s
found-front air s None is some modes flies = absurd (cc some)
found-front air s (Some plan) is some modes flies = record { plan = plan; installed = is; modes = modes; flyable = flies }

-- where its plans are those of a world, and the satellite is the world's
pub front-of : (air : ApartAir) (s t : Satellite) (all : List Plan) (net : Net) → air.plans ≡ all → s ≡ t → air.opening.net ≡ net → IsSome (plan_of all t.fore.edition)
    → t.fore.modes ≡ modes_of (plan_of all t.fore.edition) → All (IsFlyable net) all → IsPlanInFront air s
front-of air s t all net plans onboard nets some modes flies =
    let found = plan_of all t.fore.edition in
    found-front air s found
    (ap (λ (list : List Plan). plan_of list s.fore.edition) plans ∙ ap (λ (x : Satellite). plan_of all x.fore.edition) onboard) some
    (ap (λ (x : Satellite). x.fore.modes) onboard ∙ modes)
    (subst (λ (n : Net). IfSome found (IsFlyable n)) (sym nets) (plan-holds (IsFlyable net) all t.fore.edition flies))

-- by what is said of late sites, of the world behind a run of sites, and of worlds
pub front-now :
    (late : (o : Opening) (acts : List Act) → AreStamped o acts → AreLate o (late_of o acts))
    → (ordered : (o : Opening) (late : List Late) → AreLate o late → HasOrder o late)
    → (behind : (o : Opening) (steps : List Step) → IsSound o.net → AreSites o steps → AreSmall o steps → HasWorldBehind o steps)
    → (banks : (o : Opening) (events : List Event) → IsWorld o events → BanksHold (plans o (log o events)) (satellite o (log o events)))
    → (flies : (o : Opening) (events : List Event) → IsWorld o events → AreFlyable o events)
    → (o : Opening) (acts : List Act) (air : ApartAir) → IsSound o.net → AreStamped o acts → AreSmall o (steps_by o acts) → IsCentreAt o acts air
    → IsPlanInFront air (satellite_after o (steps_by o acts))
front-now late ordered behind banks flies o acts air sound are small at =
    let order = ordered o (late_of o acts) (late o acts are) in
    let few : AreSmall o order.steps = record {
      plans = subst (λ (list : List Plan). All IsStored list) (sym order.plans) small.plans;
      orders = subst (λ (n : ℕ). IsWord n) (sym order.count) small.orders;
    } in
    let has = behind o order.steps sound order.sites few in
    let past = log o has.events in
    front-of air (satellite_after o (steps_by o acts)) (satellite o past) (plans o past) o.net
    (at.plans ∙ sym order.plans ∙ has.behind.plans) (sym order.satellite ∙ has.behind.satellite) at.net
    (world-banked o has.events has.behind.world).fore (banks o has.events has.behind.world).fore
    (plans-flyable o has.events (flies o has.events has.behind.world))

-- through its modes bursts are safe that are safe through those in front
pub safe-in_front : (net : Net) (air : ApartAir) (s : Satellite) (bursts : List Burst) → IsPlanInFront air s → IsSafe net s.fore.modes bursts → IsSafeInFront net air s bursts
safe-in_front net air s bursts front safe = record { front = front; safe = subst (λ (modes : List Mode). IsSafe net modes bursts) front.modes safe }

-- what holds of a run holds of it up to each moment
pub stamped-behind : (o : Opening) (later done : List Act) → AreStamped o (later ++ done) → AreStamped o done
stamped-behind o [] done are = are
stamped-behind o (act ∷ later) done are = stamped-behind o later done are.1

word-less : (n : ℕ) → IsWord (n + 1) → IsWord n
word-less n word = (omega arith, omega (arith, word.1))

small-step : (o : Opening) (steps : List Step) (one : Step) → AreSmall o (one ∷ steps) → AreSmall o steps
small-step o steps (step.Installs plan) small = record { plans = All-tail IsStored plan (plans_after o steps) small.plans; orders = small.orders }
small-step o steps step.Places small = record { plans = small.plans; orders = word-less (order_count o steps) small.orders }
small-step o steps (step.Restarts true) small = record { plans = small.plans; orders = word-less (order_count o steps) small.orders }
small-step o steps (step.Restarts false) small = record { plans = small.plans; orders = small.orders }
small-step o steps _ small = record { plans = small.plans; orders = small.orders }

small-joined : (o : Opening) (late : List Late) (made : ℕ) (one : Option Step) → AreSmall o (steps_of (joined made one late)) → AreSmall o (steps_of late)
small-joined o late made None small = small
small-joined o late made (Some one) small = small-step o (steps_of late) one small

pub small-moment : (o : Opening) (later done : List Act) → AreSmall o (steps_by o (later ++ done)) → AreSmall o (steps_by o done)
small-moment o [] done small = small
small-moment o (act ∷ later) done small =
    let before = later ++ done in
    small-moment o later done (small-joined o (late_of o before) (made_in o (now_of o (steps_by o before)) before act) (step_by before act) small)
