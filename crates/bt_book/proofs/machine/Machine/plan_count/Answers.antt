use Rattle.std.proofs.Common.{length, ap, arith}
use Rattle.bt_history.proofs.Entries.{few_plans}
use Rattle.bt_book.proofs.machine.Machine.plan_count.Goals as goal

-- there are no more than changes, but for the empty plan
pub overflow_cast-result : goal.overflow_cast-result
overflow_cast-result c =
    let few = few_plans _ _ c.self.inside.kept.count c.self.inside.kept.edits c.self.inside.kept.bytes (length c.as_slice.result.now) c.self.inside.kept.plans.items c.self.inside.kept.orders.items (ap length c.as_slice.ensures.value)
    c.self.invariant.counts c.self.invariant.lists in
    omega (arith, few)
