use Rattle.std.proofs.Common.{ℕ, ◌<◌, List, get_or, refl, subst, arith}
use Rattle.std.proofs.lemmas.List.{take_all}
use Rattle.bt_demand.specs.declared.demand.Link.{Link}
use Rattle.bt_demand.specs.Rows.{all_links}
use Rattle.bt_demand.proofs.FlatPlaces.{flat_place, flat, flat_turn, flat_more, flat_end}
use Rattle.bt_demand.specs.Unserved.{AreUnitsAsked}
use Rattle.bt_demand.proofs.SumsSoFar.{no_link}
use Rattle.bt_demand.proofs.SentTable.{AreAdded, AreAdded-at, none_added, one_in_row}
use Rattle.bt_demand.proofs.serving.units_by_link.Goals as goal

pub loop-row-init : goal.loop-row-init
loop-row-init c = none_added (λ (l : Link). l.from.0) (λ (l : Link). l.to.0) (λ (l : Link). l.units) (all_links c.args.rows.now)

-- one more link
pub loop-link-preserved : goal.loop-link-preserved
loop-link-preserved c =
    let rows = c.args.rows.now in
    let row = c.as_slice-link-items.result.now in
    let place = flat_place rows c.loop-row.row-index c.loop-link.link-index in
    let here = flat rows (all_links rows) c.loop-row.row-index c.loop-link.link-index row _ refl c.loop-row-test.true c.as_slice-link-items.ensures.same c.row-item.is c.loop-link-test.true in
    let same = here.link no_link in
    let ends = c.requires.between place no_link here.within in
    let from = subst (λ (l : Link). l.from.0 < 64) same ends.0 in
    let to = subst (λ (l : Link). l.to.0 < 64) same ends.1 in
    AreAdded-at (λ (l : Link). l.from.0) (λ (l : Link). l.to.0) (λ (l : Link). l.units) (all_links rows) _ _ _ (flat_more rows c.loop-row.row-index c.loop-link.link-index)
    (one_in_row (λ (l : Link). l.from.0) (λ (l : Link). l.to.0) (λ (l : Link). l.units) (all_links rows) place no_link (get_or row c.loop-link.link-index no_link)
    c.loop-link.units c.from.result same here.within c.loop-link.invariant from to c.from.ensures (omega arith))

-- the row was looked at
pub loop-row-preserved : goal.loop-row-preserved
loop-row-preserved c =
    let rows = c.args.rows.now in
    subst (λ (n : ℕ). AreAdded (λ (l : Link). l.from.0) (λ (l : Link). l.to.0) (λ (l : Link). l.units) (all_links rows) n c.loop-link.units)
    (flat_turn rows c.loop-row.row-index c.loop-link.link-index c.as_slice-link-items.result.now _ c.loop-row-test.true c.as_slice-link-items.ensures.same c.row-item.is c.loop-link-test.false (omega (arith, c.loop-link.auto.link-index-end)))
    c.loop-link.invariant

-- each link was looked at
pub returns : goal.returns
returns c =
    let rows = c.args.rows.now in
    let end = flat_end rows c.loop-row.row-index c.loop-row-test.false in
    subst (λ (links : List Link). AreUnitsAsked links c.loop-row.units) (take_all (flat_place rows c.loop-row.row-index 0) (all_links rows) (omega (arith, end))) c.loop-row.invariant.so_far

-- both ends of the link are in the table
pub bounds-units-link : goal.bounds-units-link
bounds-units-link c =
    let rows = c.args.rows.now in
    let row = c.as_slice-link-items.result.now in
    let here = flat rows (all_links rows) c.loop-row.row-index c.loop-link.link-index row _ refl c.loop-row-test.true c.as_slice-link-items.ensures.same c.row-item.is c.loop-link-test.true in
    let ends = c.requires.between (flat_place rows c.loop-row.row-index c.loop-link.link-index) no_link here.within in
    subst (λ (l : Link). l.from.0 < 64) (here.link no_link) ends.0

pub bounds-units-link-in-loop-link : goal.bounds-units-link-in-loop-link
bounds-units-link-in-loop-link c =
    let rows = c.args.rows.now in
    let row = c.as_slice-link-items.result.now in
    let here = flat rows (all_links rows) c.loop-row.row-index c.loop-link.link-index row _ refl c.loop-row-test.true c.as_slice-link-items.ensures.same c.row-item.is c.loop-link-test.true in
    let ends = c.requires.between (flat_place rows c.loop-row.row-index c.loop-link.link-index) no_link here.within in
    subst (λ (l : Link). l.to.0 < 64) (here.link no_link) ends.1

pub bounds-units-link-in-loop-link-2 : goal.bounds-units-link-in-loop-link-2
bounds-units-link-in-loop-link-2 c =
    let rows = c.args.rows.now in
    let row = c.as_slice-link-items.result.now in
    let here = flat rows (all_links rows) c.loop-row.row-index c.loop-link.link-index row _ refl c.loop-row-test.true c.as_slice-link-items.ensures.same c.row-item.is c.loop-link-test.true in
    let ends = c.requires.between (flat_place rows c.loop-row.row-index c.loop-link.link-index) no_link here.within in
    subst (λ (l : Link). l.from.0 < 64) (here.link no_link) ends.0

pub bounds-units-link-in-loop-link-3 : goal.bounds-units-link-in-loop-link-3
bounds-units-link-in-loop-link-3 c =
    let rows = c.args.rows.now in
    let row = c.as_slice-link-items.result.now in
    let here = flat rows (all_links rows) c.loop-row.row-index c.loop-link.link-index row _ refl c.loop-row-test.true c.as_slice-link-items.ensures.same c.row-item.is c.loop-link-test.true in
    let ends = c.requires.between (flat_place rows c.loop-row.row-index c.loop-link.link-index) no_link here.within in
    subst (λ (l : Link). l.to.0 < 64) (here.link no_link) ends.1

-- the slots of few links fit
pub overflow_add-units : goal.overflow_add-units
overflow_add-units c =
    let rows = c.args.rows.now in
    let row = c.as_slice-link-items.result.now in
    let here = flat rows (all_links rows) c.loop-row.row-index c.loop-link.link-index row _ refl c.loop-row-test.true c.as_slice-link-items.ensures.same c.row-item.is c.loop-link-test.true in
    let ends = c.requires.between (flat_place rows c.loop-row.row-index c.loop-link.link-index) no_link here.within in
    let link = get_or row c.loop-link.link-index no_link in
    let from = subst (λ (l : Link). l.from.0 < 64) (here.link no_link) ends.0 in
    let to = subst (λ (l : Link). l.to.0 < 64) (here.link no_link) ends.1 in
    let small = c.loop-link.invariant.small link.from.0 link.to.0 from to in
    omega (arith, small, here.within, c.requires.few, c.from.ensures)
