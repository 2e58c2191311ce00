use Rattle.std.proofs.Common.{List, Some, sym, ◌∙◌, ap, subst}
use Rattle.bt_demand.specs.declared.plan.Plan.{Plan}
use Rattle.bt_machines.specs.Plans.{plan_of}
use Rattle.bt_site.specs.Plans.{Planned, StandsAt}
use Rattle.bt_world.proofs.Kept.{kept-as}
use Rattle.bt_world.proofs.Messages.{logged-plans}
use Rattle.bt_world.proofs.world.WorldOver.plan.Goals as goal

pub plan_at-requires : goal.plan_at-requires
plan_at-requires g c =
    let is = kept-as _ _ _ c.self.view_is c.self.invariant in
    let all = logged-plans c.self.inside.net c.self.inside.orders.items c.self.inside.log _ c.self.view_is in
    let same = ap (λ (p : Planned). p.all) c.plans.ensures.plans ∙ is.plans ∙ sym all in
    let stands = subst (λ (list : List Plan). StandsAt list c.args.edition c.in-Some.place) same c.in-Some.ensures.place in
    stands.within

pub returns-in-Some : goal.returns-in-Some
returns-in-Some g c =
    let is = kept-as _ _ _ c.self.view_is c.self.invariant in
    let all = logged-plans c.self.inside.net c.self.inside.orders.items c.self.inside.log _ c.self.view_is in
    let same = ap (λ (p : Planned). p.all) c.plans.ensures.plans ∙ is.plans ∙ sym all in
    let stands = subst (λ (list : List Plan). StandsAt list c.args.edition c.in-Some.place) same c.in-Some.ensures.place in
    let plan = c.plan_at.result.now in
    ap (λ (p : Plan). Some p) (c.plan_at.ensures plan) ∙ sym (stands.is plan) ∙ ap (λ (list : List Plan). plan_of list c.args.edition) all

pub returns-in-None : goal.returns-in-None
returns-in-None g c =
    let is = kept-as _ _ _ c.self.view_is c.self.invariant in
    sym c.in-None.ensures.place ∙ ap (λ (p : Planned). plan_of p.all c.args.edition) c.plans.ensures.plans ∙ ap (λ (list : List Plan). plan_of list c.args.edition) is.plans
