use Rattle.std.proofs.Common.{◌≡◌, drop}
use Rattle.bt_shared.proofs.publisher.publish.Given as goal

-- nothing was shown yet, and the same is pending
abbrev pub invariant-loop : goal.invariant-loop
invariant-loop g l =
    (goal.iterator-loop g).can_next l.iterator' × (goal.iterator-loop g).is_finite l.iterator' × (l.writer.desk.shown.value ≡ l.fn.writer.desk.shown.value)
    × (drop l.writer.behind l.writer.log.items ≡ drop l.fn.writer.behind l.fn.writer.log.items)
