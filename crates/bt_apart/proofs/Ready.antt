-- Whatever happens to the centre, its orders, the one that it wants and its status keep their spelling.
use Rattle.std.proofs.Common.{ℕ, ◌<◌, ◌≤◌, List, [], ◌∷◌, All, Option, Some, None, IfSome}
use Rattle.std.specs.Prelude.{IsSome}
use Rattle.std.proofs.lemmas.List.Elements.{All-weaker}
use Rattle.bt_frame.specs.declared.numbers.EditionNo.{EditionNo}
use Rattle.bt_frame.specs.declared.numbers.Mark.{Mark}
use Rattle.bt_frame.specs.declared.numbers.TermSet.{TermSet}
use Rattle.bt_demand.specs.declared.plan.Plan.{Plan}
use Rattle.bt_air.specs.declared.order.Order.{Order}
use Rattle.bt_air.specs.declared.order.Order.TheVariants.{Load, Arm}
use Rattle.bt_air.specs.Orders.{edition_ordered}
use Rattle.bt_machines.specs.Centre.{State as Centre, AreNumbered, act_at, after_turn, begins_with, turn_at}
use Rattle.bt_machines.specs.Plans.{StartsEmpty, newest_of, plan_of}
use Rattle.bt_machines.specs.Turn.{wanted_by}
use Rattle.bt_site.specs.Fits.{HasPlan, IsInTime}
use Rattle.bt_site.proofs.Banks.{act-planned, if-some-still, still}
use Rattle.bt_site.proofs.Counted.{IsNumbered, act-numbered}
use Rattle.bt_apart.specs.Apart.{IsTimely}
use Rattle.bt_apart.specs.Inside.{IsReady, MayJoin}

-- an order that may join has the next number and a plan
numbered-one : (plans : List Plan) (placed : List Order) (order : Order) → MayJoin plans placed order → IsNumbered placed order
numbered-one plans placed (Load command edition) may = (may.number, tt)
numbered-one plans placed (Arm command edition due) may = (may.number, may.timely)

pub numbered-next : (plans : List Plan) (placed : List Order) (next : Option Order) → IfSome next (MayJoin plans placed) → IfSome next (IsNumbered placed)
numbered-next plans placed None may = tt
numbered-next plans placed (Some order) may = numbered-one plans placed order may

pub planned-next : (plans : List Plan) (placed : List Order) (next : Option Order) → IfSome next (MayJoin plans placed) → IfSome next (HasPlan plans)
planned-next plans placed None may = tt
planned-next plans placed (Some order) may = may.planned

-- and it is timely
pub timely-next : (plans : List Plan) (placed : List Order) (next : Option Order) → IfSome next (MayJoin plans placed) → IfSome next IsTimely
timely-next plans placed None may = tt
timely-next plans placed (Some order) may = may.timely

-- and an order that has both may join
may-next : (plans : List Plan) (placed : List Order) (next : Option Order) → IfSome next (IsNumbered placed) → IfSome next (HasPlan plans) → IfSome next (MayJoin plans placed)
may-next plans placed None numbered planned = tt
may-next plans placed (Some (Load command edition)) numbered planned = record { number = numbered.0; timely = tt; planned = planned }
may-next plans placed (Some (Arm command edition due)) numbered planned = record { number = numbered.0; timely = numbered.1; planned = planned }

-- after its turn
pub turned-ready : (plans : List Plan) (s : Centre) (mark : Mark) (target : EditionNo) (lead patience : ℕ) → 1 ≤ lead → IsSome (plan_of plans target) → IsReady plans s
    → IsReady plans (after_turn s mark target lead patience)
turned-ready plans s mark target lead patience long some ready =
    let turn = turn_at s mark target lead patience in
    record {
      numbered = ready.numbered;
      in_time = ready.in_time;
      planned = ready.planned;
      next = may-next plans s.orders (wanted_by (act_at s mark target lead patience))
          (act-numbered turn s.wanted s.kept s.orders long ready.numbered (numbered-next plans s.orders s.wanted ready.next))
          (act-planned plans turn s.wanted s.kept s.orders some ready.planned (planned-next plans s.orders s.wanted ready.next));
      kept = ready.kept;
    }

-- before anything
pub begun-ready : (plans : List Plan) (placed : List Order) (needs : TermSet) → AreNumbered placed → All IsInTime placed → All (HasPlan plans) placed
    → IsReady plans (begins_with placed needs)
begun-ready plans placed needs numbered in_time planned = record { numbered = numbered; in_time = in_time; planned = planned; next = tt; kept = tt }

-- with a plan more
pub installed-ready : (plans : List Plan) (plan : Plan) (s : Centre) → IsReady plans s → IsReady (plan ∷ plans) s
installed-ready plans plan s ready = record {
  numbered = ready.numbered;
  in_time = ready.in_time;
  planned = All-weaker (HasPlan plans) (HasPlan (plan ∷ plans)) (λ (order : Order) has. still plan plans (edition_ordered order) has) s.orders ready.planned;
  next = may-next (plan ∷ plans) s.orders s.wanted (numbered-next plans s.orders s.wanted ready.next) (if-some-still plan plans s.wanted (planned-next plans s.orders s.wanted ready.next));
  kept = ready.kept;
}

-- the edition to which it goes back has a plan with one plan more
pub back-still : (plans : List Plan) (plan : Plan) (back : Option EditionNo) → IfSome back (λ edition. IsSome (plan_of plans edition)) → IfSome back (λ edition. IsSome (plan_of (plan ∷ plans) edition))
back-still plans plan None has = tt
back-still plans plan (Some edition) has = still plan plans edition has

pub starts-more : (plans : List Plan) (plan : Plan) → StartsEmpty plans → (newest_of plans).0 < plan.edition.0 → StartsEmpty (plan ∷ plans)
starts-more [] plan starts newer = absurd starts
starts-more (before ∷ rest) plan starts newer = (newer, starts)
