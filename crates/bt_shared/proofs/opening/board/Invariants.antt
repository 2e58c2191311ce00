use Rattle.std.proofs.Common.{◌≡◌, drop, [], length, All, vec_len, vec_capacity}
use Rattle.left_right.specs.Sides.{view}
use Rattle.bt_shared.specs.Rule.{saw}
use Rattle.bt_shared.specs.Posted.{posted}
use Rattle.bt_shared.proofs.opening.board.Given as goal

-- the publisher has seen its list, and each reader that is made has seen the plans of it
abbrev pub invariant-loop : goal.invariant-loop
invariant-loop g l =
    (l.writer.desk.shown.value.seen ≡ l.shown.seen) × (drop l.writer.behind l.writer.log.items ≡ []) × (view l.writer.desk.place ≡ saw l.writer.desk.shown.value)
    × (length l.all.items ≡ l.counter) × (vec_len l.all ≡ l.counter) × (vec_capacity l.all ≡ l.readers) × All (λ r. r ≡ posted l.shown.seen.book l.shown.seen.log) l.all.items
