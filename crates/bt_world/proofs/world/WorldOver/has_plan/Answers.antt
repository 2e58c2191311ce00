use Rattle.std.proofs.Common.{List, is_some, ◌∙◌, ap}
use Rattle.bt_demand.specs.declared.plan.Plan.{Plan}
use Rattle.bt_machines.specs.Plans.{plan_of}
use Rattle.bt_site.specs.Plans.{Planned}
use Rattle.bt_world.proofs.Kept.{kept-as}
use Rattle.bt_world.proofs.world.WorldOver.has_plan.Goals as goal

pub returns : goal.returns
returns g c =
    let is = kept-as _ _ _ c.self.view_is c.self.invariant in
    record {
      planned = c.has.ensures.planned ∙ ap (λ (p : Planned). is_some (plan_of p.all c.args.edition)) c.plans.ensures.plans
          ∙ ap (λ (all : List Plan). is_some (plan_of all c.args.edition)) is.plans;
    }
