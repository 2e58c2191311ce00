use Rattle.std.proofs.Common.{◌≡◌, ◌<◌, ℕ, length, take}
use Rattle.std.specs.List.Sorted.{IsPermutation}
use Rattle.bt_cut.specs.Bucket.{all_of, IsBucket}
use Rattle.bt_cut.proofs.burst_order.in_buckets.Given as goal

-- the bursts so far, each in its bucket
abbrev pub invariant-loop-burst : goal.invariant-loop-burst
invariant-loop-burst l = record {
  count : length l.buckets.items ≡ 256;
  moved : IsPermutation (take l.burst-index l.bursts) (all_of l.buckets.items);
  each : (k : ℕ) → k < length l.buckets.items → IsBucket l.buckets.items k;
}
