use Rattle.std.proofs.Common.{◌≤◌, ℕ, take, refl, subst, ap, ◌∙◌, arith}
use Rattle.std.proofs.lemmas.List.{take_all}
use Rattle.std.proofs.lemmas.List.Sums.{sum_by_more}
use Rattle.bt_frame.specs.declared.limits.TheConstants.{MOST_SUM}
use Rattle.bt_demand.specs.declared.demand.Link.{Link}
use Rattle.bt_demand.specs.Rows.{all_links}
use Rattle.bt_demand.proofs.FlatPlaces.{flat_place, flat, flat_turn, flat_more, flat_end}
use Rattle.bt_cli.specs.Make.{units_in_all}
use Rattle.bt_cli.proofs.summary.units_in_all.Goals as goal

-- the slots of few links fit
pub overflow_add-units : goal.overflow_add-units
overflow_add-units c =
    let rows = c.args.rows.now in
    let none : Link = record { from = record { 0 = 0 }; to = record { 0 = 0 }; units = 0 } in
    let place = flat_place rows c.loop-row.row-index c.loop-link.link-index in
    let here = flat rows (all_links rows) c.loop-row.row-index c.loop-link.link-index c.as_slice-link-items.result.now _ refl c.loop-row-test.true c.as_slice-link-items.ensures.same c.row-item.is c.loop-link-test.true in
    let small = subst (λ (l : Link). l.units ≤ MOST_SUM) (here.link none) (c.requires.small place none here.within) in
    omega (arith, here.within, c.requires.few, small, c.loop-link.invariant.small, c.from-units.ensures)

-- the slots of one link more
pub loop-link-preserved : goal.loop-link-preserved
loop-link-preserved c =
    let rows = c.args.rows.now in
    let none : Link = record { from = record { 0 = 0 }; to = record { 0 = 0 }; units = 0 } in
    let place = flat_place rows c.loop-row.row-index c.loop-link.link-index in
    let here = flat rows (all_links rows) c.loop-row.row-index c.loop-link.link-index c.as_slice-link-items.result.now _ refl c.loop-row-test.true c.as_slice-link-items.ensures.same c.row-item.is c.loop-link-test.true in
    let small = subst (λ (l : Link). l.units ≤ MOST_SUM) (here.link none) (c.requires.small place none here.within) in
    let more = flat_more rows c.loop-row.row-index c.loop-link.link-index in
    let longer = ap (λ (n : ℕ). units_in_all (take n (all_links rows))) more in
    let next = sum_by_more (λ (l : Link). l.units) (all_links rows) place none here.within in
    let link = ap (λ (l : Link). l.units) (here.link none) in
    record {
      so_far = omega (arith, longer, next, link, c.loop-link.invariant.so_far, c.from-units.ensures);
      small = omega (arith, more, small, c.loop-link.invariant.small, c.from-units.ensures);
    }

-- the row was gone over
pub loop-row-preserved : goal.loop-row-preserved
loop-row-preserved c =
    let rows = c.args.rows.now in
    let turn = flat_turn rows c.loop-row.row-index c.loop-link.link-index c.as_slice-link-items.result.now _ c.loop-row-test.true c.as_slice-link-items.ensures.same c.row-item.is c.loop-link-test.false (omega (arith, c.loop-link.auto.link-index-end)) in
    record {
      so_far = c.loop-link.invariant.so_far ∙ ap (λ (n : ℕ). units_in_all (take n (all_links rows))) turn;
      small = omega (arith, turn, c.loop-link.invariant.small);
    }

-- and so was each row
pub returns : goal.returns
returns c =
    let rows = c.args.rows.now in
    let end = flat_end rows c.loop-row.row-index c.loop-row-test.false in
    c.loop-row.invariant.so_far ∙ ap units_in_all (take_all _ (all_links rows) (omega (arith, end)))
