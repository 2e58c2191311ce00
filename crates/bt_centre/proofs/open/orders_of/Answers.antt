-- one order more
use Rattle.std.proofs.Common.{arith}
use Rattle.bt_history.specs.Changes.{orders}
use Rattle.bt_centre.proofs.Opens.{next_taken}
use Rattle.bt_centre.proofs.open.orders_of.Goals as goal

pub loop-place-preserved : goal.loop-place-preserved
loop-place-preserved g c = record {
  so_far = next_taken (orders c.args.book.now.state.changes) _ c.loop-place.all.items c.loop-place.place c.order.result c.in_ok-push.ensures.items c.loop-place.invariant.so_far
      (omega (arith, c.loop-place-test.true, c.order_count-place-end.ensures.count)) (c.order.ensures.order c.order.result);
}
