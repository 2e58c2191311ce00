use Rattle.std.proofs.Common.{◌≡◌, ◌<◌, ℕ, List, Vec, Global, length, sym, subst, rules}
use Rattle.std.specs.List.Sorted.{IsPermutation}
use Rattle.std.proofs.lemmas.List.{take_all}
use Rattle.std.proofs.lemmas.List.Sorted.{IsPermutation-trans}
use Rattle.bt_demand.specs.declared.burst.Burst.{Burst}
use Rattle.bt_cut.specs.Bucket.{all_of, IsBucket}
use Rattle.bt_cut.proofs.Buckets.{IsOrdered-more}
use Rattle.bt_cut.proofs.burst_order.in_order.Goals as goal

-- the bursts of one bucket more, which are behind all others
pub loop-bucket-preserved : goal.loop-bucket-preserved
loop-bucket-preserved c =
    let buckets = c.as_slice-bucket-items.result.now in
    let i : ℕ = c.loop-bucket.bucket-index in
    let same : c.as_slice-bucket-items.result.now ≡ c.in_ok-buckets.buckets.items = c.as_slice-bucket-items.ensures.value in
    let inside : c.loop-bucket.bucket-index < length c.in_ok-buckets.buckets.items = subst (λ (bs : List (Vec Burst Global)). i < length bs) same c.loop-bucket-test.true in
    let own = subst (λ (bs : List (Vec Burst Global)). IsBucket bs i) (sym same) (c.in_ok-buckets.ensures.each i inside) in
    let shuffled = subst (λ (xs : List Burst). IsPermutation xs c.in_ok-part.part.items) c.as_slice.ensures.value c.in_ok-part.ensures.moved in
    let more = IsOrdered-more buckets i c.bucket-item.result c.in_ok-part.part.items c.loop-bucket.ordered.items c.loop-bucket-test.true (search rules) own shuffled c.in_ok-part.ensures.ordered c.loop-bucket.invariant in
    let slice : c.as_slice-in-loop-bucket.result.now ≡ c.in_ok-part.part.items = c.as_slice-in-loop-bucket.ensures.value in
    rw (c.in_ok-extend_from_slice.ensures.items, slice) more

-- the bursts of all buckets are all bursts
pub returns-clause-moved : goal.returns-clause-moved
returns-clause-moved c =
    let buckets = c.as_slice-bucket-items.result.now in
    let whole = take_all c.loop-bucket.bucket-index buckets (search rules) in
    let all = subst (λ (bs : List (Vec Burst Global)). IsPermutation (all_of bs) c.loop-bucket.ordered.items) whole c.loop-bucket.invariant.moved in
    let kept = subst (λ (bs : List (Vec Burst Global)). IsPermutation (all_of bs) c.loop-bucket.ordered.items) c.as_slice-bucket-items.ensures.value all in
    let first = subst (λ (xs : List Burst). IsPermutation xs (all_of c.in_ok-buckets.buckets.items)) c.as_slice-all.ensures.value c.in_ok-buckets.ensures.moved in
    IsPermutation-trans c.args.bursts.items (all_of c.in_ok-buckets.buckets.items) c.loop-bucket.ordered.items first kept
