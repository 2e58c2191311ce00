use Rattle.std.proofs.Common.{ℕ, List, take, refl, subst, arith, get_or}
use Rattle.std.proofs.lemmas.List.{take_all}
use Rattle.bt_net.specs.Terminals.{IsTerminal}
use Rattle.bt_matrix.specs.Dense.{KeepsSums}
use Rattle.bt_demand.specs.declared.demand.Link.{Link}
use Rattle.bt_demand.specs.Rows.{all_links}
use Rattle.bt_demand.specs.Traffic.{matrix_of}
use Rattle.bt_demand.proofs.FlatPlaces.{flat_place, flat, flat_turn, flat_more, flat_end}
use Rattle.bt_demand.proofs.Matrices.{step_in_row}
use Rattle.bt_demand.proofs.SumsSoFar.{no_link, HasSums, HasSums-none, HasSums-add, HasSums-at, row_fits, column_fits}
use Rattle.bt_demand.proofs.length_faults.line_sums.Goals as goal

-- no link was looked at yet
pub loop-sent-init : goal.loop-sent-init
loop-sent-init c = HasSums-none c.args.net.now c.requires.beams.0 c.requires.beams.1

-- each sum has room for the link
pub overflow_add-rows : goal.overflow_add-rows
overflow_add-rows c =
    let rows = c.args.demand.now in
    let row = c.as_slice-link-items.result.now in
    let place = flat_place rows c.loop-sent.sent-index c.loop-link.link-index in
    let here = flat rows (all_links rows) c.loop-sent.sent-index c.loop-link.link-index row _ refl c.loop-sent-test.true c.as_slice-link-items.ensures.same c.sent-item.is c.loop-link-test.true in
    let one = step_in_row c.args.net.now rows (all_links rows) c.loop-sent.sent-index c.loop-link.link-index row no_link c.beam_of-up.result c.beam_of-down.result here c.requires.sums c.beam_of-up.ensures.beam c.beam_of-down.ensures.beam c.beam_of-up.ensures.in_range c.beam_of-down.ensures.in_range in
    omega (arith, row_fits c.args.net.now (all_links rows) place c.beam_of-up.result.0 c.beam_of-down.result.0 (get_or row c.loop-link.link-index no_link).units c.loop-link.rows c.loop-link.columns one c.beam_of-up.ensures.in_range c.loop-link.invariant)

pub overflow_add-columns : goal.overflow_add-columns
overflow_add-columns c =
    let rows = c.args.demand.now in
    let row = c.as_slice-link-items.result.now in
    let place = flat_place rows c.loop-sent.sent-index c.loop-link.link-index in
    let here = flat rows (all_links rows) c.loop-sent.sent-index c.loop-link.link-index row _ refl c.loop-sent-test.true c.as_slice-link-items.ensures.same c.sent-item.is c.loop-link-test.true in
    let one = step_in_row c.args.net.now rows (all_links rows) c.loop-sent.sent-index c.loop-link.link-index row no_link c.beam_of-up.result c.beam_of-down.result here c.requires.sums c.beam_of-up.ensures.beam c.beam_of-down.ensures.beam c.beam_of-up.ensures.in_range c.beam_of-down.ensures.in_range in
    omega (arith, column_fits c.args.net.now (all_links rows) place c.beam_of-up.result.0 c.beam_of-down.result.0 (get_or row c.loop-link.link-index no_link).units c.loop-link.rows c.loop-link.columns one c.beam_of-down.ensures.in_range c.loop-link.invariant)

-- one more link
pub loop-link-preserved : goal.loop-link-preserved
loop-link-preserved c =
    let rows = c.args.demand.now in
    let row = c.as_slice-link-items.result.now in
    let place = flat_place rows c.loop-sent.sent-index c.loop-link.link-index in
    let here = flat rows (all_links rows) c.loop-sent.sent-index c.loop-link.link-index row _ refl c.loop-sent-test.true c.as_slice-link-items.ensures.same c.sent-item.is c.loop-link-test.true in
    let one = step_in_row c.args.net.now rows (all_links rows) c.loop-sent.sent-index c.loop-link.link-index row no_link c.beam_of-up.result c.beam_of-down.result here c.requires.sums c.beam_of-up.ensures.beam c.beam_of-down.ensures.beam c.beam_of-up.ensures.in_range c.beam_of-down.ensures.in_range in
    HasSums-at c.args.net.now (all_links rows) _ _ _ _ (flat_more rows c.loop-sent.sent-index c.loop-link.link-index)
    (HasSums-add c.args.net.now (all_links rows) place c.beam_of-up.result.0 c.beam_of-down.result.0 (get_or row c.loop-link.link-index no_link).units c.loop-link.rows c.loop-link.columns one
    c.beam_of-up.ensures.in_range c.beam_of-down.ensures.in_range c.loop-link.invariant)

-- the row was looked at
pub loop-sent-preserved : goal.loop-sent-preserved
loop-sent-preserved c =
    let rows = c.args.demand.now in
    subst (λ (n : ℕ). HasSums (matrix_of c.args.net.now (take n (all_links rows))) c.loop-link.rows c.loop-link.columns)
    (flat_turn rows c.loop-sent.sent-index c.loop-link.link-index c.as_slice-link-items.result.now _ c.loop-sent-test.true c.as_slice-link-items.ensures.same c.sent-item.is c.loop-link-test.false (omega (arith, c.loop-link.auto.link-index-end)))
    c.loop-link.invariant

-- each link was looked at
pub returns : goal.returns
returns c =
    let rows = c.args.demand.now in
    let end = flat_end rows c.loop-sent.sent-index c.loop-sent-test.false in
    subst (λ (links : List Link). KeepsSums (matrix_of c.args.net.now links) c.loop-sent.rows c.loop-sent.columns)
    (take_all (flat_place rows c.loop-sent.sent-index 0) (all_links rows) (omega (arith, end))) c.loop-sent.invariant.keeps

-- both ends of the link are terminals of the network
pub beam_of-up-requires : goal.beam_of-up-requires
beam_of-up-requires c =
    let rows = c.args.demand.now in
    let row = c.as_slice-link-items.result.now in
    let here = flat rows (all_links rows) c.loop-sent.sent-index c.loop-link.link-index row _ refl c.loop-sent-test.true c.as_slice-link-items.ensures.same c.sent-item.is c.loop-link-test.true in
    let ends = c.requires.of_network (flat_place rows c.loop-sent.sent-index c.loop-link.link-index) no_link here.within in
    record { terminal = subst (λ (link : Link). IsTerminal c.args.net.now link.from) (here.link no_link) ends.0 }

pub beam_of-down-requires : goal.beam_of-down-requires
beam_of-down-requires c =
    let rows = c.args.demand.now in
    let row = c.as_slice-link-items.result.now in
    let here = flat rows (all_links rows) c.loop-sent.sent-index c.loop-link.link-index row _ refl c.loop-sent-test.true c.as_slice-link-items.ensures.same c.sent-item.is c.loop-link-test.true in
    let ends = c.requires.of_network (flat_place rows c.loop-sent.sent-index c.loop-link.link-index) no_link here.within in
    record { terminal = subst (λ (link : Link). IsTerminal c.args.net.now link.to) (here.link no_link) ends.1 }
