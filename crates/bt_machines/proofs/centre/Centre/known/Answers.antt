-- by the orders that the status may not know of
use Rattle.std.proofs.Common.{List, drop, reverse, Some, sym, ◌∙◌, ap}
use Rattle.bt_air.specs.declared.order.Order.{Order}
use Rattle.bt_machines.specs.Centre.{State}
use Rattle.bt_machines.specs.Known.{known}
use Rattle.bt_machines.proofs.Behind.{known-behind}
use Rattle.bt_machines.proofs.centre.Centre.known.Goals as goal

pub returns-in-Some : goal.returns-in-Some
returns-in-Some c =
    let behind = c.behind.ensures ∙ ap (λ (s : State). drop c.in-Some.status.last.0 (reverse s.orders)) (sym c.self.view_is) in
    record {
      known = rw (← c.self.view_is) (rw c.in-Some.is
          (c.known_by.ensures
          ∙ ap (λ (orders : List Order). known (Some c.in-Some.status) orders c.args.mark.0) behind
          ∙ known-behind c.in-Some.status c.args.mark.0 (reverse c.self.inside.orders.items) c.self.invariant.numbered));
    }
