-- as the wanted order says
use Rattle.std.proofs.Common.{sym, ◌∙◌}
use Rattle.bt_centre.proofs.Joins.{joins_none, joins_wanted}
use Rattle.bt_centre.proofs.restart.joins_order.Goals as goal

pub returns-in-Some : goal.returns-in-Some
returns-in-Some g c =
    joins_wanted c.args.centre.now c.args.book.now.state.changes c.in-Some.order c.order_count.result c.has_joined.result (sym c.wanted.ensures.wanted ∙ c.in-Some.is) c.order_count.ensures.count c.has_joined.ensures

pub returns-in-None : goal.returns-in-None
returns-in-None g c = joins_none c.args.centre.now c.args.book.now.state.changes (sym c.wanted.ensures.wanted ∙ c.in-None.is)
