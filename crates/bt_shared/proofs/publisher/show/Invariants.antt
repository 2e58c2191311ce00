use Rattle.std.proofs.Common.{◌≡◌, drop, []}
use mathlib.Core.List.{IsPrefix}
use Rattle.bt_shared.proofs.publisher.show.Given as goal

-- the plan is at hand, nothing is pending, and the plan's list goes on from the one shown
abbrev pub invariant-loop : goal.invariant-loop
invariant-loop g l =
    (goal.iterator-loop g).can_next l.iterator' × (goal.iterator-loop g).is_finite l.iterator' × (l.shown ≡ l.fn.shown)
    × (l.fn.shown.seen.book ≡ l.writer.desk.shown.value.seen.book) × IsPrefix l.writer.desk.shown.value.seen.log l.fn.shown.seen.log × (drop l.writer.behind l.writer.log.items ≡ [])
