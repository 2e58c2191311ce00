use Rattle.std.proofs.Common.{◌≡◌, ◌<◌, List, refl, sym, subst, ◌∙◌}
use Rattle.bt_demand.specs.declared.plan.Plan.{Plan}
use Rattle.bt_site.specs.Event.{Install}
use Rattle.bt_machines.specs.Plans.{newest_of}
use Rattle.bt_world.specs.Life.{Life, MayCome, having_had, life_of}
use Rattle.bt_world.proofs.Installs.{install-kept}
use Rattle.bt_world.proofs.world.WorldOver.install.Goals as goal

pub install-requires : goal.install-requires
install-requires g c =
    let may = subst (λ (life : Life). MayCome life (Install c.args.plan)) (sym c.self.view_is) c.requires in
    record { newer = subst (λ (list : List Plan). (newest_of list).0 < c.args.plan.edition.0) (sym c.self.invariant.plans) may.meets.0 }

pub invariant_of-self-2 : goal.invariant_of-self-2
invariant_of-self-2 g c =
    let inside = c.self.inside in
    let may = subst (λ (life : Life). MayCome life (Install c.args.plan)) (sym c.self.view_is) c.requires in
    let opening = c.install-2.ensures.opening ∙ c.reserve_plan.ensures.opening in
    let events = c.install-2.ensures.events in
    let room = c.reserve_plan.ensures.events in
    let now : life_of inside.net inside.orders.items c.install-2.new.self ≡ having_had (life_of inside.net inside.orders.items inside.log) (Install c.args.plan) = cc in
    install-kept _ _ c.args.plan _ _ c.self.invariant may c.in_ok-install.ensures.stored now c.in_ok-install.ensures.terminals c.in_ok-install.ensures.installed refl refl refl c.in_ok-install.ensures.centre refl
