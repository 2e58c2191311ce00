use Rattle.std.proofs.Common.{◌≡◌, refl, sym, subst, ◌∙◌}
use Rattle.bt_site.specs.Event.{RestartCentre}
use Rattle.bt_world.specs.Life.{Life, MayCome, having_had, life_of}
use Rattle.bt_world.proofs.Placed.{restart-kept}
use Rattle.bt_world.proofs.world.WorldOver.restart.Goals as goal

pub invariant_of-self-2 : goal.invariant_of-self-2
invariant_of-self-2 g c =
    let inside = c.self.inside in
    let event = RestartCentre c.args.kept in
    let may = subst (λ (life : Life). MayCome life event) (sym c.self.view_is) c.requires in
    let opening = c.push.ensures.opening ∙ c.reserve.ensures.opening in
    let events = c.push.ensures.events in
    let room = c.reserve.ensures.events in
    let now : life_of inside.net inside.orders.items c.push.new.self ≡ having_had (life_of inside.net inside.orders.items inside.log) event = cc in
    restart-kept _ _ c.args.kept _ _ c.self.invariant may now c.in_ok-restart.ensures.terminals c.in_ok-restart.ensures.plans refl refl refl c.in_ok-restart.ensures.state refl
