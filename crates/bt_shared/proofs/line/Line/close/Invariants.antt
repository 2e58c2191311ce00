use Rattle.std.proofs.Common.{◌≡◌}
use Rattle.bt_shared.proofs.Passes.{Taking}
use Rattle.bt_shared.proofs.line.Line.close.Given as goal

abbrev pub invariant-loop-pass : goal.invariant-loop-pass
invariant-loop-pass g l = (l.lead.table_id ≡ l.table.shared.table_id) × Taking (λ p. p.place.me.0) l.fn.passes.items l.passes.items l.lead.me.0

abbrev pub decreases-loop-pass : goal.decreases-loop-pass
decreases-loop-pass g l = goal.left-loop-pass g l
