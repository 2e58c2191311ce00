use Rattle.std.proofs.Common.{◌≡◌, length, List, All, Vec, Global, sym, ap, subst, arith}
use Rattle.std.proofs.lemmas.Grind.{common_steps}
use Rattle.std.proofs.lemmas.List.Elements.{All-push}
use Rattle.bt_demand.specs.declared.burst.Burst.{Burst}
use Rattle.bt_cut.proofs.burst_order.no_buckets.Goals as goal

-- one bucket more
pub loop-preserved : goal.loop-preserved
loop-preserved c =
    let has_none = λ (bucket : Vec Burst Global). length bucket.items ≡ 0 in
    record {
      count = grind (arith, common_steps);
      none = subst (λ (buckets : List (Vec Burst Global)). All has_none buckets) (sym c.in_ok-push.ensures.items)
          (All-push has_none c.loop.buckets.items c.new.result c.loop.invariant.none (ap length c.new.ensures.items));
    }
