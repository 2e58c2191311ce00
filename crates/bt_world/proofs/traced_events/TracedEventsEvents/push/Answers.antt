use Rattle.std.proofs.Common.{◌∙◌, List, reverse, sym, ap}
use Rattle.bt_site.specs.Event.{Event}
use Rattle.bt_world.specs.Life.{installs, told_in}
use Rattle.bt_world.proofs.Places.{installs-more, told-more}
use Rattle.bt_world.proofs.traced_events.TracedEventsEvents.push.Goals as goal

pub invariant_of-self : goal.invariant_of-self
invariant_of-self c =
    let more = told-more _ _ c.args.event c.push.ensures.pushed in
    c.self.invariant ∙ ap reverse (sym (ap (λ (list : List Event). installs (reverse list)) more ∙ installs-more c.args.event (told_in c.self.inside.trace) c.requires.no_plan))
