-- Each bank of the satellite holds the modes of the plan of its edition.
use Rattle.std.proofs.Common.{◌≡◌, inl, inr, ℕ, ◌+◌, ◌==◌, ◌&&◌, nat_lt, not, if◌then◌else◌, Bool, true, false, List, [], ◌∷◌, All, Option, Some, None, IfSome, slice_get, refl, sym, ◌∙◌, ap, arith, subst}
use Rattle.std.specs.Prelude.{IsSome}
use Rattle.std.proofs.lemmas.Bool.Decides.{nat_tests}
use Rattle.std.proofs.lemmas.List.Elements.{All-cons, All-head, All-tail, All-weaker}
use Rattle.bt_frame.specs.declared.numbers.Command.{Command}
use Rattle.bt_frame.specs.declared.numbers.EditionNo.{EditionNo}
use Rattle.bt_frame.specs.declared.numbers.Mark.{Mark}
use Rattle.bt_demand.specs.declared.plan.Plan.{Plan}
use Rattle.bt_air.specs.declared.order.Order.{Order}
use Rattle.bt_air.specs.declared.order.Order.TheVariants.{Load, Arm}
use Rattle.bt_air.specs.declared.order.Status.{Status}
use Rattle.bt_air.specs.declared.sent.Act.TheVariants.{Quiet, RepeatLoad, RepeatArm, Want}
use Rattle.bt_air.specs.declared.sent.Place.{Place}
use Rattle.bt_air.specs.declared.sent.Place.TheVariants.{Satellite, Centre, Terminal}
use Rattle.bt_air.specs.declared.sent.Aired.{Aired}
use Rattle.bt_air.specs.declared.sent.Aired.TheVariants as sends
use Rattle.bt_machines.specs.Satellite.{State, new_at, step_of, changed, begun, is_stale, is_armed, is_not_loaded, is_too_late}
use Rattle.bt_machines.specs.SatelliteRun.{SatelliteEvent as Happens, Begins, Hears as Takes, state_after, oldest_first}
use Rattle.bt_site.specs.Event.{Opening, Event, Tick, Turn, Second, Ordered, Deliver, Frame, ResetTerminal, RestartCentre, Install, Happening, Ticks, Turns, Seconds, Orders, Hears, Shows, Resets, Restarts, Installs}
use Rattle.bt_machines.specs.declared.turn.Turn.{Turn as Sight}
use Rattle.bt_machines.specs.Last.{last_order}
use Rattle.bt_machines.specs.Turn.{attempt, act_of, arm_after, is_before, may_arm, wanted_by}
use Rattle.bt_site.specs.World.{sight, greatest_due, mark, plans, wanted, orders, kept, accepted, sent, log}
use Rattle.bt_machines.specs.CentreSteps.{with_wanted}
use Rattle.bt_machines.specs.Plans.{first_or, plan_of, modes_of, StartsEmpty, newest_of}
use Rattle.bt_machines.specs.Says.{carried}
use Rattle.bt_site.specs.Satellite.{to_satellite, satellite, BanksHold}
use Rattle.bt_demand.specs.Plan.{empty_plan}
use Rattle.bt_air.specs.Orders.{edition_ordered}
use Rattle.bt_site.specs.Fits.{HasPlan, IsWorld}
use Rattle.bt_site.specs.Laws.{IsAmong}
use Rattle.bt_site.proofs.Standing.{Comes, comes, world-holds}
use Rattle.bt_site.proofs.Joins.{IsSoundIfAny}
use Rattle.bt_machines.proofs.SatelliteByEvents.{state_more}

-- a plan more leaves the plan of an edition as it was, where there was one
first-stays : (first : Option Plan) (edition : EditionNo) (plan : Plan) → IsSome first → first_or first edition plan ≡ first
first-stays None edition plan some = cc
first-stays (Some first) edition plan some = refl

pub plan-stays : (plan : Plan) (all : List Plan) (edition : EditionNo) → IsSome (plan_of all edition) → plan_of (plan ∷ all) edition ≡ plan_of all edition
plan-stays plan all edition some = first-stays (plan_of all edition) edition plan some

pub still : (plan : Plan) (all : List Plan) (edition : EditionNo) → IsSome (plan_of all edition) → IsSome (plan_of (plan ∷ all) edition)
still plan all edition some = subst (λ (p : Option Plan). IsSome p) (sym (plan-stays plan all edition some)) some

-- the newest edition has a plan
first-some : (first : Option Plan) (plan : Plan) (test : Bool) → (plan.edition.0 == plan.edition.0) ≡ test → IsSome (first_or first plan.edition plan)
first-some (Some first) plan test e = refl
first-some None plan true e = rw e refl
first-some None plan false e = absurd (grind (arith, nat_tests))

pub newest-planned : (all : List Plan) → StartsEmpty all → IsSome (plan_of all (newest_of all))
newest-planned [] starts = absurd starts
newest-planned (plan ∷ earlier) starts = first-some (plan_of earlier plan.edition) plan _ refl

-- edition 0 has the empty plan
empty-first : (all : List Plan) → StartsEmpty all → plan_of all (record { 0 = 0 }) ≡ Some empty_plan
empty-first [] starts = absurd starts
empty-first (plan ∷ []) starts = rw starts refl
empty-first (plan ∷ before ∷ rest) starts =
    let e = empty-first (before ∷ rest) starts.1 in ap (λ (p : Option Plan). first_or p (record { 0 = 0 }) plan) e

-- plans are never none
pub record HasPlans (all : List Plan) : Type 0 where
  pub zero : IsSome (plan_of all (record { 0 = 0 }))
  pub newest : IsSome (plan_of all (newest_of all))

opened-plans : (all : List Plan) → StartsEmpty all → HasPlans all
opened-plans all starts = record { zero = let e = empty-first all starts in rw e refl; newest = newest-planned all starts }

-- the editions of all orders, and of the wanted one, have plans
pub record Planned (o : Opening) (past : List Happening) : Type 0 where
  pub some : HasPlans (plans o past)
  pub placed : All (HasPlan (plans o past)) (orders o past)
  pub next : IfSome (wanted past) (HasPlan (plans o past))

-- a new change is for an edition that has a plan
attempt-if : (all : List Plan) (last : ℕ) (target : EditionNo) (test : Bool) → IsSome (plan_of all target)
    → IfSome (wanted_by (if test then Quiet else Want (Load (record { 0 = last + 1 }) target))) (HasPlan all)
attempt-if all last target true some = tt
attempt-if all last target false some = some

attempt-planned : (all : List Plan) (found : Option EditionNo) (target : EditionNo) (last : ℕ) → IsSome (plan_of all target) → IfSome (wanted_by (attempt found target last)) (HasPlan all)
attempt-planned all None target last some = tt
attempt-planned all (Some fore) target last some = attempt-if all last target (target.0 == fore.0) some

-- the Arm that follows a Load is for its edition
arm-if : (all : List Plan) (turn : Sight) (command : Command) (edition : EditionNo) (load test : Bool) → IsSome (plan_of all edition)
    → IfSome (wanted_by (if test then Want (arm_after turn command edition) else RepeatLoad load)) (HasPlan all)
arm-if all turn command edition load true some = some
arm-if all turn command edition load false some = tt

-- after an Arm nothing is wanted, or a new change
wait-if : (all : List Plan) (last : ℕ) (found : Option EditionNo) (target : EditionNo) (repeats waits : Bool) → IsSome (plan_of all target)
    → IfSome (wanted_by (if repeats then RepeatArm else (if waits then Quiet else attempt found target last))) (HasPlan all)
wait-if all last found target true waits some = tt
wait-if all last found target false true some = tt
wait-if all last found target false false some = attempt-planned all found target last some

-- what is wanted after the last order
last-planned : (all : List Plan) (turn : Sight) (status : Status) (placed : List Order) → IsSome (plan_of all turn.target) → All (HasPlan all) placed
    → IfSome (wanted_by (act_of turn None (Some status) (last_order placed))) (HasPlan all)
last-planned all turn status [] some planned = attempt-planned all turn.in_force turn.target 0 some
last-planned all turn status (Arm command edition due ∷ earlier) some planned =
    wait-if all command.0 turn.in_force turn.target (is_before status due.0 && nat_lt turn.mark.0 due.0) (is_before status due.0) some
last-planned all turn status (Load command edition ∷ earlier) some planned =
    arm-if all turn command edition (not (status.last.0 == command.0)) (may_arm turn status command) (All-head (HasPlan all) (Load command edition) earlier planned)

-- what a turn wants
pub act-planned : (all : List Plan) (turn : Sight) (next : Option Order) (status : Option Status) (placed : List Order)
    → IsSome (plan_of all turn.target) → All (HasPlan all) placed → IfSome next (HasPlan all)
    → IfSome (wanted_by (act_of turn next status (last_order placed))) (HasPlan all)
act-planned all turn (Some order) status placed some planned one = one
act-planned all turn None None placed some planned one = tt
act-planned all turn None (Some status) placed some planned one = last-planned all turn status placed some planned

-- the wanted order joins
pub joined-planned : (all : List Plan) (next : Option Order) (placed : List Order) → All (HasPlan all) placed → IfSome next (HasPlan all) → All (HasPlan all) (with_wanted next placed)
joined-planned all None placed planned one = planned
joined-planned all (Some order) placed planned one = All-cons (HasPlan all) order placed one planned

-- one plan more
pub if-some-still : (plan : Plan) (all : List Plan) (next : Option Order) → IfSome next (HasPlan all) → IfSome next (HasPlan (plan ∷ all))
if-some-still plan all None one = tt
if-some-still plan all (Some order) one = still plan all (edition_ordered order) one

installed : (o : Opening) (past : List Happening) (plan : Plan) → Planned o past → Planned o (Installs plan ∷ past)
installed o past plan planned = record {
  some = record { zero = still plan (plans o past) (record { 0 = 0 }) planned.some.zero; newest = first-some (plan_of (plans o past) plan.edition) plan _ refl };
  placed = All-weaker (HasPlan (plans o past)) (HasPlan (plan ∷ plans o past)) (λ (order : Order) h. still plan (plans o past) (edition_ordered order) h) (orders o past) planned.placed;
  next = if-some-still plan (plans o past) (wanted past) planned.next;
}

pub world-planned : (o : Opening) (events : List Event) → IsWorld o events → Planned o (log o events)
world-planned o [] opening = record { some = opened-plans o.plans opening.starts; placed = opening.planned; next = tt }
world-planned o (Tick ∷ earlier) world = let p = world-planned o earlier world.1 in record { some = p.some; placed = p.placed; next = p.next }
world-planned o (Turn target ∷ earlier) world =
    let past = log o earlier in
    let p = world-planned o earlier world.1 in
    record { some = p.some; placed = p.placed; next = act-planned (plans o past) (sight o past target) (wanted past) (kept past) (orders o past) world.0 p.placed p.next }
world-planned o (Second in_force ∷ earlier) world = let p = world-planned o earlier world.1 in record { some = p.some; placed = p.placed; next = p.next }
world-planned o (Ordered ∷ earlier) world =
    let past = log o earlier in let p = world-planned o earlier world.1 in
    record { some = p.some; placed = joined-planned (plans o past) (wanted past) (orders o past) p.placed p.next; next = tt }
world-planned o (Deliver number place ∷ earlier) world = let p = world-planned o earlier world.1 in record { some = p.some; placed = p.placed; next = p.next }
world-planned o (Frame ∷ earlier) world = let p = world-planned o earlier world.1 in record { some = p.some; placed = p.placed; next = p.next }
world-planned o (ResetTerminal terminal ∷ earlier) world = let p = world-planned o earlier world.1 in record { some = p.some; placed = p.placed; next = p.next }
world-planned o (RestartCentre true ∷ earlier) world =
    let past = log o earlier in let p = world-planned o earlier world.1 in
    record { some = p.some; placed = joined-planned (plans o past) (wanted past) (orders o past) p.placed p.next; next = tt }
world-planned o (RestartCentre false ∷ earlier) world = let p = world-planned o earlier world.1 in record { some = p.some; placed = p.placed; next = tt }
world-planned o (Install plan ∷ earlier) world = installed o (log o earlier) plan (world-planned o earlier world.1)

-- both banks
pub record Banked (all : List Plan) (s : State) : Type 0 where
  pub hold : BanksHold all s
  pub fore : IsSome (plan_of all s.fore.edition)
  pub back : IsSome (plan_of all s.back.edition)

banked-tick : (all : List Plan) (s : State) (due : Bool) → Banked all s → Banked all (if due then changed (begun s) else begun s)
banked-tick all s true banked = record { hold = record { fore = banked.hold.back; back = banked.hold.fore }; fore = banked.back; back = banked.fore }
banked-tick all s false banked = record { hold = record { fore = banked.hold.fore; back = banked.hold.back }; fore = banked.fore; back = banked.back }

among-planned : (all : List Plan) (order : Order) (placed : List Order) → All (HasPlan all) placed → IsAmong order placed → HasPlan all order
among-planned all order [] planned among = absurd among
among-planned all order (first ∷ rest) planned (inl same) = subst (HasPlan all) (sym same) (All-head (HasPlan all) first rest planned)
among-planned all order (first ∷ rest) planned (inr among) = among-planned all order rest (All-tail (HasPlan all) first rest planned) among

banked-load : (all : List Plan) (s : State) (command : Command) (edition : EditionNo) (stale armed : Bool) → is_stale s command ≡ stale → is_armed s.armed ≡ armed
    → IsSome (plan_of all edition) → Banked all s → Banked all (step_of s (carried all (sends.Load command edition))).1
banked-load all s command edition true armed p q some banked = rw p banked
banked-load all s command edition false true p q some banked = rw (p, q) banked
banked-load all s command edition false false p q some banked = rw (p, q) (record { hold = record { fore = banked.hold.fore; back = refl }; fore = banked.fore; back = some })

banked-arm : (all : List Plan) (s : State) (command : Command) (edition : EditionNo) (due : Mark) (stale armed missing late : Bool)
    → is_stale s command ≡ stale → is_armed s.armed ≡ armed → is_not_loaded s edition ≡ missing → is_too_late s due ≡ late
    → Banked all s → Banked all (step_of s (carried all (sends.Arm command edition due))).1
banked-arm all s command edition due true armed missing late p q r t banked = rw p banked
banked-arm all s command edition due false true missing late p q r t banked = rw (p, q) banked
banked-arm all s command edition due false false true late p q r t banked = rw (p, q, r) banked
banked-arm all s command edition due false false false true p q r t banked = rw (p, q, r, t) banked
banked-arm all s command edition due false false false false p q r t banked =
    rw (p, q, r, t) (record { hold = record { fore = banked.hold.fore; back = banked.hold.back }; fore = banked.fore; back = banked.back })

banked-take : (placed taken : List Order) (now : ℕ) (all : List Plan) (s : State) (one : Aired) → All (HasPlan all) placed → IsSoundIfAny placed taken now (Some one)
    → Banked all s → Banked all (step_of s (carried all one)).1
banked-take placed taken now all s (sends.Load command edition) planned among banked =
    banked-load all s command edition _ _ refl refl (among-planned all (Load command edition) placed planned among) banked
banked-take placed taken now all s (sends.Arm command edition due) planned among banked = banked-arm all s command edition due _ _ _ _ refl refl refl refl banked
banked-take placed taken now all s (sends.Status status) planned sound banked = banked
banked-take placed taken now all s (sends.PlanFor to load edition) planned sound banked = banked
banked-take placed taken now all s (sends.Confirm from load edition) planned sound banked = banked
banked-take placed taken now all s (sends.Reference superframe in_force next) planned sound banked = banked
banked-take placed taken now all s (sends.Lost from) planned sound banked = banked

-- the next state of the satellite
module _ (mark : Mark) where
  next : (all : List Plan) (before : List Happens) (event : Happens) → (P : State → Type 0)
      → P (state_after (state_after (new_at mark) (oldest_first before)) (event ∷ [])) → P (state_after (new_at mark) (oldest_first (event ∷ before)))
  next all before event P p = subst P (sym (state_more (new_at mark) (oldest_first before) event)) p

banked-hear : (o : Opening) (past : List Happening) (one : Option Aired) (place : Place) → Planned o past → Comes o past (Hears one place)
    → Banked (plans o past) (satellite o past) → Banked (plans o past) (satellite o (Hears one place ∷ past))
banked-hear o past None Satellite planned sound banked = banked
banked-hear o past (Some sent) Satellite planned sound banked =
    next (record { 0 = greatest_due o.orders }) (plans o past) (to_satellite o past) (Takes (carried (plans o past) sent)) (Banked (plans o past))
    (banked-take (orders o past) (accepted o past) (mark o past) (plans o past) (satellite o past) sent planned.placed sound banked)
banked-hear o past one Centre planned sound banked = banked
banked-hear o past one (Terminal to) planned sound banked = banked

banked-install : (all : List Plan) (plan : Plan) (s : State) → Banked all s → Banked (plan ∷ all) s
banked-install all plan s banked = record {
  hold = record {
    fore = banked.hold.fore ∙ ap modes_of (sym (plan-stays plan all s.fore.edition banked.fore));
    back = banked.hold.back ∙ ap modes_of (sym (plan-stays plan all s.back.edition banked.back));
  };
  fore = still plan all s.fore.edition banked.fore;
  back = still plan all s.back.edition banked.back;
}

pub world-banked : (o : Opening) (events : List Event) → IsWorld o events → Banked (plans o (log o events)) (satellite o (log o events))
world-banked o [] opening =
    let e = empty-first o.plans opening.starts in
    let some = (opened-plans o.plans opening.starts).zero in
    let none : [] ≡ modes_of (plan_of o.plans (record { 0 = 0 })) = rw e refl in
    record { hold = record { fore = none; back = none }; fore = some; back = some }
world-banked o (Tick ∷ earlier) world =
    let past = log o earlier in
    next (record { 0 = greatest_due o.orders }) (plans o past) (to_satellite o past) Begins (Banked (plans o past))
    (banked-tick (plans o past) (satellite o past) _ (world-banked o earlier world.1))
world-banked o (Turn target ∷ earlier) world = world-banked o earlier world.1
world-banked o (Second in_force ∷ earlier) world = world-banked o earlier world.1
world-banked o (Ordered ∷ earlier) world = world-banked o earlier world.1
world-banked o (Deliver number place ∷ earlier) world =
    let past = log o earlier in
    banked-hear o past (slice_get (sent o past) number) place (world-planned o earlier world.1) (comes o past (Deliver number place) (world-holds o earlier)) (world-banked o earlier world.1)
world-banked o (Frame ∷ earlier) world = world-banked o earlier world.1
world-banked o (ResetTerminal terminal ∷ earlier) world = world-banked o earlier world.1
world-banked o (RestartCentre kept ∷ earlier) world = world-banked o earlier world.1
world-banked o (Install plan ∷ earlier) world = banked-install (plans o (log o earlier)) plan (satellite o (log o earlier)) (world-banked o earlier world.1)

pub banks-hold : (o : Opening) (events : List Event) → IsWorld o events → BanksHold (plans o (log o events)) (satellite o (log o events))
banks-hold o events world = (world-banked o events world).hold

-- the newest edition of every world has a plan
pub newest-has_plan : (o : Opening) (events : List Event) → IsWorld o events → IsSome (plan_of (plans o (log o events)) (newest_of (plans o (log o events))))
newest-has_plan o events world = (world-planned o events world).some.newest

-- whatever happens, the plan of an edition stays, where there is one
pub plans-stay : (o : Opening) (past : List Happening) (happening : Happening) (edition : EditionNo) → IsSome (plan_of (plans o past) edition)
    → plan_of (plans o (happening ∷ past)) edition ≡ plan_of (plans o past) edition
plans-stay o past Ticks edition some = refl
plans-stay o past (Turns target act) edition some = refl
plans-stay o past (Seconds in_force) edition some = refl
plans-stay o past Orders edition some = refl
plans-stay o past (Hears one place) edition some = refl
plans-stay o past Shows edition some = refl
plans-stay o past (Resets terminal) edition some = refl
plans-stay o past (Restarts kept) edition some = refl
plans-stay o past (Installs plan) edition some = plan-stays plan (plans o past) edition some
