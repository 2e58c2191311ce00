-- A world opens with the empty plan and no order.
use Rattle.std.proofs.Common.{◌≡◌, List, [], ◌∷◌, refl, sym, ◌∙◌, ap, subst, arith}
use Rattle.std.proofs.lemmas.List.Elements.{All-nil, All-cons}
use Rattle.bt_net.specs.Network.{Net}
use Rattle.bt_demand.specs.declared.plan.Plan.{Plan}
use Rattle.bt_demand.specs.Flyable.{IsFlyable}
use Rattle.bt_demand.proofs.Flyable.{empty_flies}
use Rattle.bt_air.specs.declared.order.Order.{Order}
use Rattle.bt_demand.specs.Plan.{empty_plan}
use Rattle.bt_site.specs.Fits.{HasPlan, IsInTime, IsOpening}
use Rattle.bt_world.specs.Life.{opening_of}

-- a world opens with the empty plan
opens : (net : Net) → IsOpening (opening_of net (empty_plan ∷ []) [])
opens net = record {
  starts = refl;
  fit = All-cons (IsFlyable net) empty_plan [] (empty_flies net) (All-nil (IsFlyable net));
  numbered = tt;
  planned = All-nil (HasPlan (empty_plan ∷ []));
  in_time = All-nil IsInTime;
  few = omega arith;
}

-- and with lists that are equal to these
pub opens-with : (net : Net) (plan : Plan) (plans : List Plan) (orders : List Order) → plan ≡ empty_plan → plans ≡ plan ∷ [] → orders ≡ [] → IsOpening (opening_of net plans orders)
opens-with net plan plans orders empty one none =
    let listed : plans ≡ empty_plan ∷ [] = one ∙ ap (λ (p : Plan). p ∷ []) empty in
    subst (λ (l : List Plan). IsOpening (opening_of net l orders)) (sym listed)
    (subst (λ (l : List Order). IsOpening (opening_of net (empty_plan ∷ []) l)) (sym none) (opens net))
