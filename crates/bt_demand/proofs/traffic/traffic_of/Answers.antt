use Rattle.std.proofs.Common.{ℕ, List, replicate, take, refl, sym, ap, ◌∙◌, subst, arith}
use Rattle.std.proofs.lemmas.List.{take_all}
use Rattle.bt_net.specs.Terminals.{IsTerminal}
use Rattle.bt_demand.specs.declared.demand.Link.{Link}
use Rattle.bt_demand.specs.Rows.{all_links}
use Rattle.bt_demand.specs.Traffic.{matrix_of, AreOfNetwork, HasSumsTo}
use Rattle.bt_demand.proofs.FlatPlaces.{flat_place, flat, flat_turn, flat_more, flat_end}
use Rattle.bt_demand.proofs.Matrices.{length-matrix_of, matrix_of-none, step_in_row, added}
use Rattle.bt_demand.proofs.traffic.traffic_of.Goals as goal

-- no link was looked at yet
pub loop-row-init : goal.loop-row-init
loop-row-init c =
    c.in_ok-matrix.ensures.zeros ∙ (ap (λ (n : ℕ). replicate n (replicate n 0)) c.beam_count.ensures.count ∙ sym (matrix_of-none c.args.net.now))

-- both beams are on the matrix, and their lines have room
pub add-requires-clause-up : goal.add-requires-clause-up
add-requires-clause-up c =
    let rows = c.rows-row-items.result.now in
    rw c.loop-link.invariant (omega (arith, length-matrix_of c.args.net.now (take (flat_place rows c.loop-row.row-index c.loop-link.link-index) (all_links rows)), c.beam_of.ensures.in_range))

pub add-requires-clause-down : goal.add-requires-clause-down
add-requires-clause-down c =
    let rows = c.rows-row-items.result.now in
    rw c.loop-link.invariant (omega (arith, length-matrix_of c.args.net.now (take (flat_place rows c.loop-row.row-index c.loop-link.link-index) (all_links rows)), c.beam_of-in-loop-link.ensures.in_range))

pub add-requires-clause-row : goal.add-requires-clause-row
add-requires-clause-row c =
    let rows = c.rows-row-items.result.now in
    let row = c.as_slice-link-items.result.now in
    let sums = subst (λ (links : List Link). HasSumsTo 1048576 (matrix_of c.args.net.now links)) (sym c.rows-row-items.ensures.links) c.requires.sums in
    let here = flat rows (all_links rows) c.loop-row.row-index c.loop-link.link-index row _ refl c.loop-row-test.true c.as_slice-link-items.ensures.same c.row-item.is c.loop-link-test.true in
    let one = step_in_row c.args.net.now rows (all_links rows) c.loop-row.row-index c.loop-link.link-index row _ c.beam_of.result c.beam_of-in-loop-link.result here sums c.beam_of.ensures.beam c.beam_of-in-loop-link.ensures.beam c.beam_of.ensures.in_range c.beam_of-in-loop-link.ensures.in_range in
    rw c.loop-link.invariant one.row

pub add-requires-clause-column : goal.add-requires-clause-column
add-requires-clause-column c =
    let rows = c.rows-row-items.result.now in
    let row = c.as_slice-link-items.result.now in
    let sums = subst (λ (links : List Link). HasSumsTo 1048576 (matrix_of c.args.net.now links)) (sym c.rows-row-items.ensures.links) c.requires.sums in
    let here = flat rows (all_links rows) c.loop-row.row-index c.loop-link.link-index row _ refl c.loop-row-test.true c.as_slice-link-items.ensures.same c.row-item.is c.loop-link-test.true in
    let one = step_in_row c.args.net.now rows (all_links rows) c.loop-row.row-index c.loop-link.link-index row _ c.beam_of.result c.beam_of-in-loop-link.result here sums c.beam_of.ensures.beam c.beam_of-in-loop-link.ensures.beam c.beam_of.ensures.in_range c.beam_of-in-loop-link.ensures.in_range in
    rw c.loop-link.invariant one.column

-- the entry of the link's beams has gained
pub loop-link-preserved : goal.loop-link-preserved
loop-link-preserved c =
    let rows = c.rows-row-items.result.now in
    let row = c.as_slice-link-items.result.now in
    let sums = subst (λ (links : List Link). HasSumsTo 1048576 (matrix_of c.args.net.now links)) (sym c.rows-row-items.ensures.links) c.requires.sums in
    let here = flat rows (all_links rows) c.loop-row.row-index c.loop-link.link-index row _ refl c.loop-row-test.true c.as_slice-link-items.ensures.same c.row-item.is c.loop-link-test.true in
    let one = step_in_row c.args.net.now rows (all_links rows) c.loop-row.row-index c.loop-link.link-index row _ c.beam_of.result c.beam_of-in-loop-link.result here sums c.beam_of.ensures.beam c.beam_of-in-loop-link.ensures.beam c.beam_of.ensures.in_range c.beam_of-in-loop-link.ensures.in_range in
    added _ _ _ _ _ _ _ c.loop-link.invariant c.add.ensures.rows one.next
    ∙ ap (λ (n : ℕ). matrix_of c.args.net.now (take n (all_links rows))) (flat_more rows c.loop-row.row-index c.loop-link.link-index)

-- the row was looked at
pub loop-row-preserved : goal.loop-row-preserved
loop-row-preserved c =
    let rows = c.rows-row-items.result.now in
    c.loop-link.invariant
    ∙ ap (λ (n : ℕ). matrix_of c.args.net.now (take n (all_links rows)))
    (flat_turn rows c.loop-row.row-index c.loop-link.link-index c.as_slice-link-items.result.now _ c.loop-row-test.true c.as_slice-link-items.ensures.same c.row-item.is c.loop-link-test.false (omega (arith, c.loop-link.auto.link-index-end)))

-- each link was looked at
pub returns : goal.returns
returns c =
    let rows = c.rows-row-items.result.now in
    let end = flat_end rows c.loop-row.row-index c.loop-row-test.false in
    record { matrix = c.loop-row.invariant ∙ ap (matrix_of c.args.net.now) (take_all _ (all_links rows) (omega (arith, end)) ∙ c.rows-row-items.ensures.links) }

-- both ends of the link are terminals of the network
pub beam_of-requires : goal.beam_of-requires
beam_of-requires c =
    let rows = c.rows-row-items.result.now in
    let row = c.as_slice-link-items.result.now in
    let none : Link = record { from = record { 0 = 0 }; to = record { 0 = 0 }; units = 0 } in
    let of = subst (λ (links : List Link). AreOfNetwork c.args.net.now links) (sym c.rows-row-items.ensures.links) c.requires.terminals in
    let here = flat rows (all_links rows) c.loop-row.row-index c.loop-link.link-index row _ refl c.loop-row-test.true c.as_slice-link-items.ensures.same c.row-item.is c.loop-link-test.true in
    record { terminal = subst (λ (link : Link). IsTerminal c.args.net.now link.from) (here.link none) (of (flat_place rows c.loop-row.row-index c.loop-link.link-index) none here.within).0 }

pub beam_of-requires-in-loop-link : goal.beam_of-requires-in-loop-link
beam_of-requires-in-loop-link c =
    let rows = c.rows-row-items.result.now in
    let row = c.as_slice-link-items.result.now in
    let none : Link = record { from = record { 0 = 0 }; to = record { 0 = 0 }; units = 0 } in
    let of = subst (λ (links : List Link). AreOfNetwork c.args.net.now links) (sym c.rows-row-items.ensures.links) c.requires.terminals in
    let here = flat rows (all_links rows) c.loop-row.row-index c.loop-link.link-index row _ refl c.loop-row-test.true c.as_slice-link-items.ensures.same c.row-item.is c.loop-link-test.true in
    record { terminal = subst (λ (link : Link). IsTerminal c.args.net.now link.to) (here.link none) (of (flat_place rows c.loop-row.row-index c.loop-link.link-index) none here.within).1 }
