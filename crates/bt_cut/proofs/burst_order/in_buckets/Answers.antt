use Rattle.std.proofs.Common.{[], ◌<◌, ℕ, length, get_or, sym, ◌∙◌, arith, rules, length-set}
use Rattle.std.proofs.lemmas.List.Sorted.{IsPermutation-refl}
use Rattle.bt_demand.specs.declared.burst.Burst.{Burst}
use Rattle.bt_cut.proofs.Buckets.{all_of-none, IsBucket-none, moved_more, bucket_more}
use Rattle.bt_cut.proofs.burst_order.in_buckets.Goals as goal

-- no burst was looked at yet
pub loop-burst-init : goal.loop-burst-init
loop-burst-init c =
    let none = c.in_ok-buckets.ensures.none in
    let buckets = c.in_ok-buckets.buckets.items in
    record {
      count = c.in_ok-buckets.ensures.count;
      moved = rw (all_of-none buckets none) (IsPermutation-refl {X = Burst} []);
      each = λ k within. IsBucket-none buckets k within none;
    }

-- one burst more is in its bucket
pub loop-burst-preserved : goal.loop-burst-preserved
loop-burst-preserved c =
    let buckets = c.loop-burst.buckets.items in
    let at : ℕ = c.bucket_of.result in
    let old = c.index_mut.result.now in
    let new = c.push.new.self in
    let burst : Burst = get_or c.args.bursts.now c.loop-burst.burst-index (record { from = record { 0 = 0 }; to = record { 0 = 0 }; start = 0; length = 0 }) in
    let inside : at < length buckets = omega (arith, c.bucket_of.ensures.few, c.loop-burst.invariant.count) in
    let long = length-set buckets at new in
    record {
      count = long ∙ c.loop-burst.invariant.count;
      moved = moved_more c.args.bursts.now c.loop-burst.burst-index burst buckets at old new c.loop-burst-test.true (search rules) inside c.index_mut.ensures.value c.in_ok-push.ensures.items c.loop-burst.invariant.moved;
      each = λ k within. bucket_more buckets at old new burst k inside (omega (arith, long, within)) c.index_mut.ensures.value c.in_ok-push.ensures.items (sym c.bucket_of.ensures.is) c.loop-burst.invariant.each;
    }
