use Rattle.std.proofs.Common.{◌≡◌, ◌++◌, ◌∷◌, [], List, None, refl, sym, subst, ap, ◌∙◌}
use Rattle.bt_air.specs.declared.order.Status.{Status}
use Rattle.bt_air.specs.declared.sent.Aired.{Aired}
use Rattle.bt_air.specs.declared.sent.Aired.TheVariants as sends
use Rattle.bt_machines.specs.Satellite.{State as Onboard}
use Rattle.bt_site.specs.Event.{Second}
use Rattle.bt_world.specs.Life.{Life, MayCome, having_had, life_of, past_of}
use Rattle.bt_world.proofs.Seconds.{second-kept}
use Rattle.bt_world.proofs.world.WorldOver.second.Goals as goal

pub invariant_of-self-2 : goal.invariant_of-self-2
invariant_of-self-2 g c =
    let life = life_of c.self.inside.net c.self.inside.orders.items c.self.inside.log in
    let event = Second c.args.in_force in
    let may = subst (λ (l : Life). MayCome l event) (sym c.self.view_is) c.requires in
    let opening = c.push.ensures.opening ∙ c.reserve.ensures.opening in
    let events = c.push.ensures.events in
    let room = c.reserve.ensures.events in
    let now : life_of c.self.inside.net c.self.inside.orders.items c.push.new.self ≡ having_had life event = cc in
    let at = ap (λ (s : Status). s.mark.0) c.status.ensures.status ∙ ap (λ (s : Onboard). s.mark.0) c.self.invariant.satellite ∙ c.satellite_is_said.ensures.mark life.opening (past_of life) in
    let told = c.post.ensures.items ∙ ap (λ (list : List Aired). list ++ sends.Reference c.status.result.mark c.args.in_force None ∷ []) c.reserve-2.ensures.items in
    second-kept c.seconds_are_said.ensures.named _ _ c.args.in_force c.status.result.mark _ _ c.self.invariant may now at refl refl told refl refl refl refl
