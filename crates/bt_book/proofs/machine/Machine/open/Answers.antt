use Rattle.std.proofs.Common.{refl}
use Rattle.bt_book.proofs.Keeping.{keeps_open}
use Rattle.bt_book.proofs.machine.Machine.open.Goals as goal

-- nothing was made yet
pub invariant_of-result : goal.invariant_of-result
invariant_of-result c =
    keeps_open _ _ _ c.none.ensures.none c.in_ok-new.ensures.links c.new-2.ensures.items c.new-plans.ensures.items c.in_ok-push.ensures.items c.empty_plan.ensures.plan
    c.new-3.ensures.items refl refl refl
