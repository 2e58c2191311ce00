use Rattle.std.proofs.Common.{◌≡◌, List, ℕ, length, sym, ap, ◌∙◌}
use Rattle.std.proofs.lemmas.Result.{IfOk-weaker}
use Rattle.bt_demand.specs.Traffic.{matrix_of}
use Rattle.bt_demand.proofs.Matrices.{length-matrix_of}
use Rattle.bt_history.specs.Changes.{matrix_after}
use Rattle.bt_history.proofs.After.{matrix_after-AddsUp}
use Rattle.bt_history.proofs.Demands.{keeps_any}
use Rattle.bt_history.proofs.OfNetwork.{small_sums}
use Rattle.bt_export.proofs.metrics.matrix_in.Goals as goal

-- the demand fits the frame
pub traffic_of-requires-clause-sums : goal.traffic_of-requires-clause-sums
traffic_of-requires-clause-sums g c =
    let net = c.args.net.now in
    let changes = c.args.book.now.state.changes in
    let links = c.demand.result.now in
    let sound = c.beam_count-beams.ensures.sound in
    small_sums net changes links sound.slots.1 (keeps_any net changes links sound c.requires.follows c.demand.ensures.demand)

-- and its matrix is that after the changes
pub returns-clause-matrix : goal.returns-clause-matrix
returns-clause-matrix g c =
    let net = c.args.net.now in
    let changes = c.args.book.now.state.changes in
    let links = c.demand.result.now in
    let keeps = keeps_any net changes links c.beam_count-beams.ensures.sound c.requires.follows c.demand.ensures.demand in
    IfOk-weaker c.traffic_of.result (λ m. m ≡ matrix_of net links) (λ m. m ≡ matrix_after net changes)
    (λ m is. is ∙ sym (matrix_after-AddsUp net changes links keeps.adds_up)) c.traffic_of.ensures.matrix

-- a row for each beam
pub returns-clause-beams : goal.returns-clause-beams
returns-clause-beams g c =
    let net = c.args.net.now in
    let links = c.demand.result.now in
    IfOk-weaker c.traffic_of.result (λ m. m ≡ matrix_of net links) (λ m. length m ≡ length net.beams)
    (λ m is. ap (λ (rows : List (List ℕ)). length rows) is ∙ length-matrix_of net links) c.traffic_of.ensures.matrix
