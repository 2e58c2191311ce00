-- the order is the last, or another is
use Rattle.std.proofs.Common.{rules, ◌∙◌, sym, ap, ◌+◌}
use Rattle.bt_centre.proofs.Joins.{tells_joined}
use Rattle.bt_centre.proofs.restart.has_joined.Goals as goal

pub returns : goal.returns
returns g c =
    tells_joined c.args.book.now.state.changes c.args.placed c.args.order c.order.result c.eq.result
    (sym (c.from.ensures ∙ c.order_count.ensures.count) ∙ c.if-from.false ∙ ap (λ n. n + 1) c.from-2.ensures) c.order.ensures.order
    (λ is. search (rules, is)) (λ is same. search (rules, is, same))
