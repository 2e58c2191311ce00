-- A plan more changes nothing of what was sent.
use Rattle.std.proofs.Common.{inl, inr, List, [], ◌∷◌, All, Option, refl, sym, ap, subst}
use Rattle.std.proofs.lemmas.List.Elements.{All-head, All-tail}
use Rattle.bt_demand.specs.declared.plan.Plan.{Plan}
use Rattle.bt_air.specs.declared.order.Order.{Order}
use Rattle.bt_air.specs.declared.order.Order.TheVariants.{Load}
use Rattle.bt_air.specs.declared.sent.Aired.{Aired}
use Rattle.bt_air.specs.declared.sent.Aired.TheVariants as sends
use Rattle.bt_air.specs.declared.message.Message.TheVariants as message
use Rattle.bt_machines.specs.Plans.{bursts_for, modes_of}
use Rattle.bt_site.specs.Event.{Opening, Event}
use Rattle.bt_site.specs.Fits.{HasPlan, IsWorld}
use Rattle.bt_site.specs.Laws.{IsAmong, IsCarriedAlike, IsOrdered}
use Rattle.bt_site.specs.World.{log, orders, plans, sent}
use Rattle.bt_site.proofs.Banks.{plan-stays, world-planned}
use Rattle.bt_site.proofs.Sends.{HasPlanFor, sent-some}
use Rattle.bt_site.proofs.Standing.{messages-ordered}

-- an order among those that have plans has one
among-planned : (all : List Plan) (order : Order) (placed : List Order) → All (HasPlan all) placed → IsAmong order placed → HasPlan all order
among-planned all order [] planned among = absurd among
among-planned all order (first ∷ rest) planned (inl same) = subst (HasPlan all) (sym same) (All-head (HasPlan all) first rest planned)
among-planned all order (first ∷ rest) planned (inr among) = among-planned all order rest (All-tail (HasPlan all) first rest planned) among

-- one message
one-stays : (plan : Plan) (all : List Plan) (placed : List Order) (one : Aired) → All (HasPlan all) placed → IsOrdered placed one → HasPlanFor all one → IsCarriedAlike (plan ∷ all) all one
one-stays plan all placed (sends.Load command edition) planned among some =
    ap (λ (p : Option Plan). message.Load command edition (modes_of p)) (plan-stays plan all edition (among-planned all (Load command edition) placed planned among))
one-stays plan all placed (sends.PlanFor to load edition) planned among some =
    ap (λ (p : Option Plan). message.PlanFor to load edition (bursts_for to p)) (plan-stays plan all edition some)
one-stays plan all placed (sends.Arm command edition due) planned among some = refl
one-stays plan all placed (sends.Status status) planned among some = refl
one-stays plan all placed (sends.Confirm from load edition) planned among some = refl
one-stays plan all placed (sends.Reference superframe in_force next) planned among some = refl
one-stays plan all placed (sends.Lost from) planned among some = refl

-- and each that was sent
pub sent-stays : (o : Opening) (events : List Event) (plan : Plan) → IsWorld o events → All (IsCarriedAlike (plan ∷ plans o (log o events)) (plans o (log o events))) (sent o (log o events))
sent-stays o events plan world =
    let past = log o events in
    λ k d within. one-stays plan (plans o past) (orders o past) _ (world-planned o events world).placed (messages-ordered o events k d within) (sent-some o past k d within)
