use Rattle.std.proofs.Common.{◌≡◌, ◌++◌, ◌∷◌, [], ◌∙◌, length, ap, rules}
use Rattle.bt_world.proofs.Places.{places-installed}
use Rattle.bt_world.proofs.kept_events.KeptEventsEvents.install.Goals as goal

pub invariant_of-self : goal.invariant_of-self
invariant_of-self c =
    let place : c.len-place.result ≡ length c.self.inside.events.items = search rules in
    let places = c.push_reserved-2.ensures.items ∙ ap (λ n. c.self.inside.places.items ++ n ∷ []) place in
    places-installed _ _ _ _ c.args.plan c.self.invariant c.push_reserved.ensures.items places
