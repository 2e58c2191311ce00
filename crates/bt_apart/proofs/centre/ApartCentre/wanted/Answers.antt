use Rattle.std.proofs.Common.{Option, IfSome, sym, subst}
use Rattle.bt_air.specs.declared.order.Order.{Order}
use Rattle.bt_apart.specs.Apart.{IsTimely}
use Rattle.bt_apart.proofs.Ready.{timely-next}
use Rattle.bt_apart.proofs.centre.ApartCentre.wanted.Goals as goal

pub returns-clause-timely : goal.returns-clause-timely
returns-clause-timely c =
    subst (λ (w : Option Order). IfSome w IsTimely) (sym c.wanted.ensures.wanted)
    (timely-next c.self.inside.centre.plans c.self.inside.centre.centre.orders c.self.inside.centre.centre.wanted c.self.invariant.ready.next)
