use Rattle.bt_modes.proofs.Partials.{IsPartial-take_set}
use Rattle.bt_modes.proofs.partial.Partial.free.Goals as goal

pub invariant_of-self : goal.invariant_of-self
invariant_of-self c = (c.self.invariant.0, IsPartial-take_set _ _ _ c.self.invariant.1)
