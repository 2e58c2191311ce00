use Rattle.bt_world.proofs.Places.{places-more}
use Rattle.bt_world.proofs.kept_events.KeptEventsEvents.push.Goals as goal

pub invariant_of-self : goal.invariant_of-self
invariant_of-self c = places-more _ _ _ c.args.event c.self.invariant c.requires.no_plan c.push_reserved.ensures.items
