use Rattle.bt_cut.proofs.Buckets.{IsOrdered}
use Rattle.bt_cut.proofs.burst_order.in_order.Given as goal

-- the bursts of the buckets so far, in order
abbrev pub invariant-loop-bucket : goal.invariant-loop-bucket
invariant-loop-bucket l = IsOrdered l.bucket-items l.bucket-index l.ordered.items
