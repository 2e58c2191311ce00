use Rattle.std.proofs.Common.{◌≡◌}
use Rattle.bt_shared.proofs.opening.seat_one.Given as goal

-- the publisher told nobody yet
abbrev pub invariant-loop : goal.invariant-loop
invariant-loop g l =
    (goal.iterator-loop g).can_next l.iterator' × (goal.iterator-loop g).is_finite l.iterator' × (l.writer ≡ l.initial.writer)
