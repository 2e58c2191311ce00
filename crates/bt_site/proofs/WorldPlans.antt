-- The plans of a world: what holds of all of them, and that each can be flown.
use Rattle.std.proofs.Common.{◌≡◌, ◌==◌, Bool, true, false, List, [], ◌∷◌, All, Option, Some, None, IfSome, refl}
use Rattle.std.proofs.lemmas.List.Elements.{All-cons, All-head, All-tail}
use Rattle.bt_frame.specs.declared.numbers.EditionNo.{EditionNo}
use Rattle.bt_demand.specs.declared.plan.Plan.{Plan}
use Rattle.bt_demand.specs.Flyable.{IsFlyable}
use Rattle.bt_site.specs.Air.{AreFlyable}
use Rattle.bt_site.specs.Event.{Opening, Event, Tick, Turn, Second, Ordered, Deliver, Frame, ResetTerminal, RestartCentre, Install}
use Rattle.bt_site.specs.Fits.{IsWorld}
use Rattle.bt_site.specs.World.{plans, log}
use Rattle.bt_machines.specs.Plans.{first_or, plan_of}

-- what holds of all plans holds of the one of an edition, if there is one
first-holds : (P : Plan → Type 0) (first : Option Plan) (edition : EditionNo) (plan : Plan) (test : Bool) → (plan.edition.0 == edition.0) ≡ test → IfSome first P → P plan
    → IfSome (first_or first edition plan) P
first-holds P (Some first) edition plan test e one holds = one
first-holds P None edition plan true e one holds = rw e holds
first-holds P None edition plan false e one holds = rw e tt

pub plan-holds : (P : Plan → Type 0) (all : List Plan) (edition : EditionNo) → All P all → IfSome (plan_of all edition) P
plan-holds P [] edition holds = tt
plan-holds P (plan ∷ earlier) edition holds =
    first-holds P (plan_of earlier edition) edition plan _ refl (plan-holds P earlier edition (All-tail P plan earlier holds)) (All-head P plan earlier holds)

-- each plan can be flown
pub plans-flyable : (o : Opening) (events : List Event) → AreFlyable o events → All (IsFlyable o.net) (plans o (log o events))
plans-flyable o [] flyable = flyable
plans-flyable o (Tick ∷ earlier) flyable = plans-flyable o earlier flyable
plans-flyable o (Turn target ∷ earlier) flyable = plans-flyable o earlier flyable
plans-flyable o (Second in_force ∷ earlier) flyable = plans-flyable o earlier flyable
plans-flyable o (Ordered ∷ earlier) flyable = plans-flyable o earlier flyable
plans-flyable o (Deliver number place ∷ earlier) flyable = plans-flyable o earlier flyable
plans-flyable o (Frame ∷ earlier) flyable = plans-flyable o earlier flyable
plans-flyable o (ResetTerminal terminal ∷ earlier) flyable = plans-flyable o earlier flyable
plans-flyable o (RestartCentre kept ∷ earlier) flyable = plans-flyable o earlier flyable
plans-flyable o (Install plan ∷ earlier) flyable = All-cons (IsFlyable o.net) plan (plans o (log o earlier)) flyable.0 (plans-flyable o earlier flyable.1)

-- in a world each plan can
pub flies-each : (o : Opening) (events : List Event) → IsWorld o events → AreFlyable o events
flies-each o [] opening = opening.fit
flies-each o (Tick ∷ earlier) world = flies-each o earlier world.1
flies-each o (Turn target ∷ earlier) world = flies-each o earlier world.1
flies-each o (Second in_force ∷ earlier) world = flies-each o earlier world.1
flies-each o (Ordered ∷ earlier) world = flies-each o earlier world.1
flies-each o (Deliver number place ∷ earlier) world = flies-each o earlier world.1
flies-each o (Frame ∷ earlier) world = flies-each o earlier world.1
flies-each o (ResetTerminal terminal ∷ earlier) world = flies-each o earlier world.1
flies-each o (RestartCentre kept ∷ earlier) world = flies-each o earlier world.1
flies-each o (Install plan ∷ earlier) world = (world.0.1, flies-each o earlier world.1)
