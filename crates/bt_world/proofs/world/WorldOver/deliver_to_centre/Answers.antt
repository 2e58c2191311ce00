use Rattle.std.proofs.Common.{refl, ◌∙◌, ap}
use Rattle.bt_air.specs.declared.message.Message.{Message}
use Rattle.bt_air.specs.declared.sent.Aired.{Aired}
use Rattle.bt_air.specs.declared.sent.Answer.{Answer}
use Rattle.bt_air.specs.declared.sent.Place.TheVariants.{Centre}
use Rattle.bt_air.specs.declared.shown.Shown.TheVariants as shows
use Rattle.bt_site.specs.Event.{Deliver}
use Rattle.bt_site.specs.World.{plans}
use Rattle.bt_site.specs.Sites.{aired_of, noted_by}
use Rattle.bt_world.specs.Life.{Life, past_of}
use Rattle.bt_world.proofs.Kept.{kept-as, logged-more}
use Rattle.bt_world.proofs.Delivers.{aired-carried, one-delivered, centre-told, centre-kept}
use Rattle.bt_world.proofs.world.WorldOver.deliver_to_centre.Goals as goal

pub invariant_of-self-2 : goal.invariant_of-self-2
invariant_of-self-2 g c =
    let inside = c.self.inside in
    let view : Life = c.args.self.now in
    let message = c.in_ok-message.message in
    let is = kept-as _ _ _ c.self.view_is c.self.invariant in
    let one = one-delivered view c.args.number Centre message c.requires c.in_ok-message.ensures.same in
    let now = logged-more inside.net inside.orders.items inside.log c.reserve.new.self c.push.new.self view (Deliver c.args.number Centre) c.self.view_is
    c.reserve.ensures.opening c.reserve.ensures.events c.push.ensures.opening c.push.ensures.events in
    let hears = c.hear-answer.ensures.state ∙ centre-told (plans view.opening (past_of view)) one.0 inside.centre.centre c.mark-mark.result _ message one.2 c.mark-mark.ensures.mark in
    centre-kept view _ c.args.number one.0 _ _ is c.requires now one.1 c.hear-answer.ensures.terminals c.hear-answer.ensures.plans refl refl refl hears refl

pub returns-clause-shown : goal.returns-clause-shown
returns-clause-shown g c =
    let view : Life = c.args.self.now in
    let message = c.in_ok-message.message in
    let one = one-delivered view c.args.number Centre message c.requires c.in_ok-message.ensures.same in
    rw one.1 (ap (λ (answer : Answer). shows.Delivered answer)
    (c.hear-answer.ensures.answer ∙ ap (λ (m : Message). noted_by (aired_of m)) one.2 ∙ ap (λ (a : Aired). noted_by a) (aired-carried (plans view.opening (past_of view)) one.0)))
