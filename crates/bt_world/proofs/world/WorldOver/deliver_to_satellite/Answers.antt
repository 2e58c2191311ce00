use Rattle.std.proofs.Common.{◌++◌, List, refl, ◌∙◌, ap}
use Rattle.std.specs.Option.{option_to_list}
use Rattle.bt_air.specs.declared.sent.Place.TheVariants.{Satellite}
use Rattle.bt_air.specs.declared.sent.Aired.{Aired}
use Rattle.bt_site.specs.Event.{Deliver}
use Rattle.bt_world.specs.Life.{Life}
use Rattle.bt_world.proofs.Kept.{kept-as, logged-more}
use Rattle.bt_world.proofs.Delivers.{one-delivered, satellite-kept}
use Rattle.bt_world.proofs.world.WorldOver.deliver_to_satellite.Goals as goal

pub invariant_of-self-2 : goal.invariant_of-self-2
invariant_of-self-2 g c =
    let inside = c.self.inside in
    let view : Life = c.args.self.now in
    let message = c.in_ok-message.message in
    let is = kept-as _ _ _ c.self.view_is c.self.invariant in
    let one = one-delivered view c.args.number Satellite message c.requires c.in_ok-message.ensures.same in
    let now = logged-more inside.net inside.orders.items inside.log c.reserve.new.self c.push.new.self view (Deliver c.args.number Satellite) c.self.view_is
    c.reserve.ensures.opening c.reserve.ensures.events c.push.ensures.opening c.push.ensures.events in
    let said = c.send.ensures ∙ ap (λ (list : List Aired). list ++ option_to_list c.hear-taken.result.1) c.in_ok-reserve-2.ensures.items ∙ ap (λ (list : List Aired). inside.sent.items ++ list) c.hear-taken.ensures.said in
    satellite-kept c.answers_are_said.ensures.satellite view _ c.args.number one.0 _ _ message is c.requires now one.1 one.2 refl refl c.hear-taken.ensures.state said refl refl refl
