use Rattle.std.proofs.Common.{◌≡◌, ℕ, ◌<◌, ◌≤◌, length, slice_index_or}
use mathlib.Core.List.{IsPrefix}
use Rattle.bt_round.proofs.round.meet_all.Given as goal

-- the readers so far met the publisher, and the others are as they were
abbrev pub invariant-loop-reader : goal.invariant-loop-reader
invariant-loop-reader g l = record {
  count : length l.reader-items ≡ length l.fn.readers;
  kept : l.publisher ≡ l.fn.publisher;
  done : (i : ℕ) (d : _) → i < l.reader-index
      → IsPrefix (slice_index_or l.fn.readers i d).plans l.fn.publisher.plans × (slice_index_or l.reader-items i d ≡ l.fn.publisher);
  left : (i : ℕ) (d : _) → l.reader-index ≤ i → slice_index_or l.reader-items i d ≡ slice_index_or l.fn.readers i d;
}
