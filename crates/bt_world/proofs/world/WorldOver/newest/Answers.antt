use Rattle.std.proofs.Common.{◌∙◌, ap}
use Rattle.bt_machines.specs.Plans.{newest_of}
use Rattle.bt_site.specs.Plans.{Planned}
use Rattle.bt_world.proofs.Kept.{kept-as}
use Rattle.bt_world.proofs.world.WorldOver.newest.Goals as goal

pub returns : goal.returns
returns g c =
    let is = kept-as _ _ _ c.self.view_is c.self.invariant in
    record { newest = c.newest.ensures.newest ∙ ap (λ (p : Planned). newest_of p.all) c.plans.ensures.plans ∙ ap newest_of is.plans }
