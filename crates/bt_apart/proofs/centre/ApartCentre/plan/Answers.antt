use Rattle.std.proofs.Common.{List, Some, sym, ◌∙◌, ap, subst}
use Rattle.bt_demand.specs.declared.plan.Plan.{Plan}
use Rattle.bt_site.specs.Plans.{Planned, StandsAt}
use Rattle.bt_apart.specs.Apart.{ApartAir}
use Rattle.bt_apart.proofs.centre.ApartCentre.plan.Goals as goal

-- the plan stands at its place
pub returns-in-Some : goal.returns-in-Some
returns-in-Some c =
    let same = ap (λ (p : Planned). p.all) c.plans.ensures.plans ∙ ap (λ (a : ApartAir). a.plans) c.self.view_is in
    let stands = subst (λ (list : List Plan). StandsAt list c.args.edition c.in-Some.place) same c.in-Some.ensures.place in
    let plan = c.plan_at.result.now in
    ap (λ (p : Plan). Some p) (c.plan_at.ensures plan) ∙ sym (stands.is plan)
