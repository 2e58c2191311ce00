use Rattle.std.proofs.Common.{◌≡◌, ℕ, ◌++◌, flat_map, get_or, length, ap, ◌∙◌, refl, arith, rules}
use Rattle.std.proofs.lemmas.List.{get_or-replicate}
use Rattle.std.specs.List.{range_with_len}
use Rattle.bt_demand.specs.declared.burst.Burst.{Burst}
use Rattle.bt_plan_chart.specs.Chart.{clash_parts_at, no_burst}
use Rattle.bt_plan_chart.specs.Parts.{parts_text}
use Rattle.bt_plan_chart.proofs.Adding.{next_parts, none_yet}
use Rattle.bt_plan_chart.proofs.Meetings.{latest_more, marked}
use Rattle.bt_plan_chart.proofs.clashes.add_clashes.Goals as goal

-- no burst was looked at yet
pub loop-burst-init : goal.loop-burst-init
loop-burst-init c = record {
  wide = search rules;
  so_far = λ beam below. get_or-replicate {A = ℕ} 32 beam 0 0 below;
  added = none_yet c.args.out.now.items;
}

-- one more burst
pub loop-burst-preserved : goal.loop-burst-preserved
loop-burst-preserved c =
    let net = c.args.net.now in
    let bursts = c.args.bursts.now in
    let k = c.loop-burst.burst-index in
    let beam = c.beam_at-beam.result in
    let burst : Burst = get_or bursts k no_burst in
    let before = get_or c.loop-burst.latest beam 0 in
    record {
      wide = search rules;
      so_far = λ b below. latest_more net c.args.direction bursts k beam c.max.result c.loop-burst.latest b c.loop-burst-test.true c.beam_at-beam.ensures.beam (omega (arith, c.loop-burst.invariant.wide, c.beam_at-beam.ensures.few)) (c.loop-burst.invariant.so_far b below) (omega (arith, c.max.ensures, c.end_of.ensures.same));
      added = next_parts (clash_parts_at net c.args.scale c.args.direction bursts) k _ _ _ c.loop-burst.invariant.added
          (c.in_ok-add_clash_of.ensures ∙ ap (λ parts. c.loop-burst.out.items ++ parts_text parts) (marked net c.args.scale c.args.direction bursts k burst beam before refl c.beam_at-beam.ensures.beam (c.loop-burst.invariant.so_far beam c.beam_at-beam.ensures.few)));
    }

pub returns : goal.returns
returns c =
    let bursts = c.args.bursts.now in
    let same : c.loop-burst.burst-index ≡ length bursts = omega (arith, c.loop-burst-test.false, c.loop-burst.auto.burst-index-end) in
    c.loop-burst.invariant.added ∙ ap (λ n. c.args.out.now.items ++ parts_text (flat_map (clash_parts_at c.args.net.now c.args.scale c.args.direction bursts) (range_with_len 0 n))) same
