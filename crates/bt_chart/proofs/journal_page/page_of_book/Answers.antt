-- the matrix, the newest plan and the links are those of the changes
use Rattle.std.proofs.Common.{◌≡◌, List, ℕ, length, ap, sym, subst, ◌∙◌}
use Rattle.std.proofs.lemmas.List.Sorted.{All-permutation}
use Rattle.std.proofs.lemmas.Result.{IfOk-weaker}
use Rattle.bt_net.specs.Terminals.{IsTerminal}
use Rattle.bt_demand.specs.declared.demand.Link.{Link}
use Rattle.bt_demand.specs.declared.plan.Plan.{Plan}
use Rattle.bt_demand.specs.Traffic.{AreOfNetwork}
use Rattle.bt_demand.proofs.Matrices.{length-matrix_of}
use Rattle.bt_history.specs.Changes.{matrix_after, newest}
use Rattle.bt_history.specs.Causes.{IsPlanOn}
use Rattle.bt_history.proofs.After.{matrix_after-AddsUp}
use Rattle.bt_history.proofs.Demands.{demand_of_network, keeps_any}
use Rattle.bt_history.proofs.OfNetwork.{small_sums}
use Rattle.bt_chart.specs.declared.state.State.{State}
use Rattle.bt_chart.specs.Page.{IsPage, page_with, state_of}
use Rattle.bt_chart.proofs.Newest.{newest_on}
use Rattle.bt_chart.proofs.journal_page.page_of_book.Goals as goal

-- the demand fits the frame
pub traffic_of-requires-clause-sums : goal.traffic_of-requires-clause-sums
traffic_of-requires-clause-sums g c =
    let net = c.args.net.now in
    let changes = c.args.book.now.state.changes in
    let links = c.demand.result.now in
    let sound = c.beam_count-beams.ensures.sound in
    small_sums net changes links sound.slots.1 (keeps_any net changes links sound c.requires.follows c.demand.ensures.demand)

-- the matrix has a row for each beam
pub page_text-requires-clause-size : goal.page_text-requires-clause-size
page_text-requires-clause-size g c = ap length c.in_ok-matrix.ensures.matrix ∙ length-matrix_of c.args.net.now c.demand.result.now

-- the newest plan is one on the network
pub page_text-requires-clause-terminals : goal.page_text-requires-clause-terminals
page_text-requires-clause-terminals g c =
    let on = newest_on c.args.net.now c.args.book.now.state.changes c.beam_count-beams.ensures.sound c.requires.follows in
    (subst (λ (plan : Plan). IsPlanOn c.args.net.now plan) (sym c.newest.ensures.newest) on).bursts

pub page_text-requires-clause-critical : goal.page_text-requires-clause-critical
page_text-requires-clause-critical g c =
    let on = newest_on c.args.net.now c.args.book.now.state.changes c.beam_count-beams.ensures.sound c.requires.follows in
    (subst (λ (plan : Plan). IsPlanOn c.args.net.now plan) (sym c.newest.ensures.newest) on).critical

-- the links of the demand are between terminals of the network, in whatever order
pub page_text-requires-clause-links : goal.page_text-requires-clause-links
page_text-requires-clause-links g c =
    let net = c.args.net.now in
    let links = c.demand-2.result.now in
    let are : AreOfNetwork net links = demand_of_network net c.args.book.now.state.changes links c.beam_count-beams.ensures.sound c.requires.follows c.demand-2.ensures.demand in
    subst (λ (l : List Link). AreOfNetwork net l) (sym c.as_slice.ensures.value)
    (All-permutation (λ (link : Link). IsTerminal net link.from × IsTerminal net link.to) links c.in_ok-links.links.items c.in_ok-links.ensures.same are)

-- the page is that of the state, the matrix and the newest plan after the changes
pub returns : goal.returns
returns g c =
    let net = c.args.net.now in
    let changes = c.args.book.now.state.changes in
    let torn = c.args.torn in
    let seconds = c.args.seconds in
    let air = c.args.shown.now.air.items in
    let ladder = c.args.shown.now.ladder.items in
    let keeps = keeps_any net changes c.demand.result.now c.beam_count-beams.ensures.sound c.requires.follows c.demand.ensures.demand in
    let state = c.state_of-state.result in
    let rows = c.in_ok-matrix.matrix in
    let plan = c.newest.result.now in
    let sorted = c.in_ok-links.links.items in
    let matrix : rows ≡ matrix_after net changes = c.in_ok-matrix.ensures.matrix ∙ sym (matrix_after-AddsUp net changes c.demand.result.now keeps.adds_up) in
    let same : page_with seconds net state air ladder rows plan c.as_slice.result.now ≡ page_with seconds net (state_of net changes torn) air ladder (matrix_after net changes) (newest changes) sorted =
    ap (λ (s : State). page_with seconds net s air ladder rows plan c.as_slice.result.now) c.state_of-state.ensures
    ∙ (ap (λ (m : List (List ℕ)). page_with seconds net (state_of net changes torn) air ladder m plan c.as_slice.result.now) matrix
    ∙ (ap (λ (p : Plan). page_with seconds net (state_of net changes torn) air ladder (matrix_after net changes) p c.as_slice.result.now) c.newest.ensures.newest
    ∙ ap (λ (l : List Link). page_with seconds net (state_of net changes torn) air ladder (matrix_after net changes) (newest changes) l) c.as_slice.ensures.value)) in
    IfOk-weaker c.page_text.result (λ text. text.items ≡ page_with seconds net state air ladder rows plan c.as_slice.result.now) (λ text. IsPage seconds net changes torn air ladder text.items)
    (λ text is. record {
      links = c.demand-2.result.now;
      demand = c.demand-2.ensures.demand;
      sorted = sorted;
      by_size = record { same = c.in_ok-links.ensures.same; falling = c.in_ok-links.ensures.falling };
      spelled = is ∙ same;
    })
    c.page_text.ensures
