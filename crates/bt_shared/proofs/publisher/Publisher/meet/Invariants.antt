use Rattle.std.proofs.Common.{◌≡◌}
use Rattle.bt_shared.proofs.publisher.Publisher.meet.Given as goal

-- the reader is as it was
abbrev pub invariant-loop : goal.invariant-loop
invariant-loop g l =
    (goal.iterator-loop g).can_next l.iterator' × (goal.iterator-loop g).is_finite l.iterator' × (l.reader ≡ l.fn.reader)
