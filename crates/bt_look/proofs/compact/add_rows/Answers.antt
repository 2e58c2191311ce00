use Rattle.std.proofs.Common.{◌+◌, ◌++◌, ℕ, take, refl, sym, subst, ap, ◌∙◌, arith}
use Rattle.std.proofs.lemmas.List.{take_all}
use Rattle.bt_demand.specs.declared.demand.Link.{Link}
use Rattle.bt_demand.specs.Rows.{all_links}
use Rattle.bt_demand.proofs.FlatPlaces.{flat_place, flat, flat_turn, flat_more, flat_end}
use Rattle.bt_plan.specs.TrafficText.{IsSpelled}
use Rattle.bt_journal.specs.JournalLines.{change_line, journal_lines}
use Rattle.bt_look.specs.Compact.{add_of, adds_of}
use Rattle.bt_look.proofs.Adds.{next_add}
use Rattle.bt_look.proofs.compact.add_rows.Goals as goal

-- one edition for each link, of which there are few
pub overflow_add-edition : goal.overflow_add-edition
overflow_add-edition c =
    let rows = c.args.rows.now in
    let here = flat rows (all_links rows) c.loop-row.row-index c.loop-link.link-index c.as_slice-link-items.result.now _ refl c.loop-row-test.true c.as_slice-link-items.ensures.same c.row-item.is c.loop-link-test.true in
    omega (arith, here.within, c.requires.few, c.loop-link.invariant.made)

pub add_link-requires-clause-edition : goal.add_link-requires-clause-edition
add_link-requires-clause-edition c =
    let rows = c.args.rows.now in
    let here = flat rows (all_links rows) c.loop-row.row-index c.loop-link.link-index c.as_slice-link-items.result.now _ refl c.loop-row-test.true c.as_slice-link-items.ensures.same c.row-item.is c.loop-link-test.true in
    (omega arith, omega (arith, here.within, c.requires.few, c.loop-link.invariant.made))

-- each of them can be spelled
pub add_link-requires-clause-spelled : goal.add_link-requires-clause-spelled
add_link-requires-clause-spelled c =
    let rows = c.args.rows.now in
    let none : Link = record { from = record { 0 = 0 }; to = record { 0 = 0 }; units = 0 } in
    let here = flat rows (all_links rows) c.loop-row.row-index c.loop-link.link-index c.as_slice-link-items.result.now _ refl c.loop-row-test.true c.as_slice-link-items.ensures.same c.row-item.is c.loop-link-test.true in
    subst (IsSpelled c.args.net.now) (here.link none) (c.requires.spelled (flat_place rows c.loop-row.row-index c.loop-link.link-index) none here.within)

-- one add more
pub loop-link-preserved : goal.loop-link-preserved
loop-link-preserved c =
    let net = c.args.net.now in
    let rows = c.args.rows.now in
    let none : Link = record { from = record { 0 = 0 }; to = record { 0 = 0 }; units = 0 } in
    let place = flat_place rows c.loop-row.row-index c.loop-link.link-index in
    let here = flat rows (all_links rows) c.loop-row.row-index c.loop-link.link-index c.as_slice-link-items.result.now _ refl c.loop-row-test.true c.as_slice-link-items.ensures.same c.row-item.is c.loop-link-test.true in
    let more = flat_more rows c.loop-row.row-index c.loop-link.link-index in
    record {
      made = omega (arith, more, c.loop-link.invariant.made);
      so_far = next_add net (all_links rows) place (c.loop-link.edition + 1) none _ _ _ here.within (omega (arith, c.loop-link.invariant.made)) c.loop-link.invariant.so_far
          (c.in_ok-add_link.ensures ∙ ap (λ (l : Link). c.loop-link.text.items ++ change_line net (c.loop-link.edition + 1) (add_of l)) (sym (here.link none)))
          ∙ ap (λ (n : ℕ). c.args.text.now.items ++ journal_lines net (adds_of (take n (all_links rows)))) more;
    }

-- the row was gone over
pub loop-row-preserved : goal.loop-row-preserved
loop-row-preserved c =
    let rows = c.args.rows.now in
    let turn = flat_turn rows c.loop-row.row-index c.loop-link.link-index c.as_slice-link-items.result.now _ c.loop-row-test.true c.as_slice-link-items.ensures.same c.row-item.is c.loop-link-test.false (omega (arith, c.loop-link.auto.link-index-end)) in
    record {
      made = omega (arith, turn, c.loop-link.invariant.made);
      so_far = c.loop-link.invariant.so_far ∙ ap (λ (n : ℕ). c.args.text.now.items ++ journal_lines c.args.net.now (adds_of (take n (all_links rows)))) turn;
    }

-- and so was each row
pub returns : goal.returns
returns c =
    let rows = c.args.rows.now in
    let end = flat_end rows c.loop-row.row-index c.loop-row-test.false in
    c.loop-row.invariant.so_far ∙ ap (λ l. c.args.text.now.items ++ journal_lines c.args.net.now (adds_of l)) (take_all _ (all_links rows) (omega (arith, end)))
