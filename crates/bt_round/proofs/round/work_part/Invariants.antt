use Rattle.std.proofs.Common.{◌≡◌, ℕ, ◌<◌, ◌≤◌, length, slice_index_or}
use Rattle.bt_round.specs.Workers.{WorkDone}
use Rattle.bt_round.proofs.round.work_part.Given as goal

-- the workers so far did their lines, and the others are as they were
abbrev pub invariant-loop-worker : goal.invariant-loop-worker
invariant-loop-worker g l = record {
  count : length l.worker-items ≡ length l.fn.workers;
  done : (i : ℕ) (d : _) → i < l.worker-index → WorkDone l.net (slice_index_or l.fn.workers i d) (slice_index_or l.worker-items i d);
  left : (i : ℕ) (d : _) → l.worker-index ≤ i → slice_index_or l.worker-items i d ≡ slice_index_or l.fn.workers i d;
}
