use Rattle.std.proofs.Common.{◌≡◌, length, All, Vec, Global}
use Rattle.bt_demand.specs.declared.burst.Burst.{Burst}
use Rattle.bt_cut.proofs.burst_order.no_buckets.Given as goal

-- so many buckets without bursts
abbrev pub invariant-loop : goal.invariant-loop
invariant-loop l = record {
  count : length l.buckets.items ≡ l.counter;
  none : All (λ (bucket : Vec Burst Global). length bucket.items ≡ 0) l.buckets.items;
}
