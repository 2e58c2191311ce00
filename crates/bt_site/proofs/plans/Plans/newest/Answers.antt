use Rattle.std.proofs.Common.{◌∙◌, rules}
use Rattle.bt_site.proofs.Lookup.{newest-said}
use Rattle.bt_site.proofs.plans.Plans.newest.Goals as goal

pub returns : goal.returns
returns c = record { newest = rw (← c.self.view_is) (c.index.ensures ∙ newest-said _ _ _ _ c.self.invariant.starts c.self.invariant.editions (search rules)) }
