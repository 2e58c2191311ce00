use Rattle.std.proofs.Common.{◌≡◌, ℕ, ◌+◌, ◌++◌, flat_map, get_or, length, take, ap, sym, ◌∙◌, refl, rules, arith, slice_get, Some}
use Rattle.std.specs.List.{range_with_len}
use Rattle.std.proofs.lemmas.List.Sums.{sum_by_more}
use Rattle.std.proofs.lemmas.Option.{get_or_from_slice_get, slice_get_read}
use Rattle.bt_frame.specs.declared.mode.Mode.{Mode}
use Rattle.bt_matrix.specs.Good.{total_duration}
use Rattle.bt_demand.specs.Plan.{begin_of}
use Rattle.bt_plan_chart.specs.Chart.{mode_parts_at, mode_parts_from, no_mode}
use Rattle.bt_plan_chart.specs.Parts.{parts_text}
use Rattle.bt_plan_chart.proofs.Adding.{next_parts, none_yet}
use Rattle.bt_plan_chart.proofs.modes.add_bands.Goals as goal

pub loop-place-init : goal.loop-place-init
loop-place-init c = record { few = c.requires.few; added = none_yet c.args.out.now.items; begins = refl; small = omega arith }

-- one more mode, which begins where those before it end
pub loop-place-preserved : goal.loop-place-preserved
loop-place-preserved c =
    let modes = c.args.modes.now in
    let place = c.loop-place.place in
    let mode : Mode = c.index-modes-place.result in
    let found : slice_get modes place ≡ Some mode = slice_get_read modes (length modes) place mode refl (search rules) (search rules) in
    let same : get_or modes place no_mode ≡ mode = get_or_from_slice_get modes place mode no_mode found in
    let more : total_duration (take (place + 1) modes) ≡ total_duration (take place modes) + (get_or modes place no_mode).duration = sum_by_more (λ (m : Mode). m.duration) modes place no_mode (search rules) in
    let long : (get_or modes place no_mode).duration ≡ mode.duration = ap (λ (m : Mode). m.duration) same in
    let begun = c.loop-place.invariant.begins in
    record {
      few = c.requires.few;
      added = next_parts (mode_parts_at c.args.net.now c.args.scale modes) place c.args.out.now.items c.loop-place.out.items c.add_mode_if_shown.new.out.items c.loop-place.invariant.added
          (c.in_ok-add_mode_if_shown.ensures
          ∙ ap (λ (begin : ℕ). c.loop-place.out.items ++ parts_text (mode_parts_from c.args.net.now c.args.scale place begin mode)) begun
          ∙ ap (λ (m : Mode). c.loop-place.out.items ++ parts_text (mode_parts_from c.args.net.now c.args.scale place (begin_of modes place) m)) (sym same));
      begins = omega (arith, more, long, begun, c.from-begin.ensures);
      small = search rules;
    }

pub returns : goal.returns
returns c =
    let same : c.loop-place.place ≡ length c.args.modes.now = omega arith in
    c.loop-place.invariant.added ∙ ap (λ n. c.args.out.now.items ++ parts_text (flat_map (mode_parts_at c.args.net.now c.args.scale c.args.modes.now) (range_with_len 0 n))) same
