use Rattle.std.proofs.Common.{◌≡◌, refl, ◌∙◌, sym, ap, subst}
use Rattle.bt_air.specs.declared.order.Status.{Status}
use Rattle.bt_air.specs.declared.shown.Shown.TheVariants as shows
use Rattle.bt_site.specs.Event.{Tick}
use Rattle.bt_world.specs.Life.{Life, MayCome, having_had, life_of}
use Rattle.bt_machines.specs.Satellite.{status_of}
use Rattle.bt_world.proofs.Ticks.{tick-told, tick-kept}
use Rattle.bt_world.proofs.world.WorldOver.tick.Goals as goal

pub invariant_of-self-2 : goal.invariant_of-self-2
invariant_of-self-2 g c =
    let may = subst (λ (life : Life). MayCome life Tick) (sym c.self.view_is) c.requires in
    let opening = c.push.ensures.opening ∙ c.reserve.ensures.opening in
    let events = c.push.ensures.events in
    let room = c.reserve.ensures.events in
    let now : life_of c.self.inside.net c.self.inside.orders.items c.push.new.self ≡ having_had (life_of c.self.inside.net c.self.inside.orders.items c.self.inside.log) Tick = cc in
    let said = c.post.ensures.items in
    let status = (c.tick-status.ensures.said ∙ sym (ap status_of c.tick-status.ensures.state)) in
    let space = c.reserve-2.ensures.items in
    tick-kept c.satellite_is_said.ensures.status _ _ _ _ c.self.invariant may now refl refl c.tick-status.ensures.state (cc) refl refl refl

pub returns-clause-shown : goal.returns-clause-shown
returns-clause-shown g c =
    rw (← c.self.view_is)
    (ap (λ (status : Status). shows.Ticked status) ((c.tick-status.ensures.said ∙ sym (ap status_of c.tick-status.ensures.state)) ∙ tick-told c.satellite_is_said.ensures.status _ _ _ c.self.invariant c.tick-status.ensures.state))
