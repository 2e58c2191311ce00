use Rattle.std.proofs.Common.{[], codes, sym}
use Rattle.std.proofs.lemmas.Option.{get_or_from_slice_get}
use Rattle.bt_matrix.specs.Traffic.{column_sum, row_sum}
use Rattle.bt_look.specs.Room.{beam_named}
use Rattle.bt_look.proofs.Beams.{two_added}
use Rattle.bt_chart.specs.Page.{way_row}
use Rattle.bt_chart.proofs.Rows.{same_way, same_way_ok}
use Rattle.bt_chart.proofs.beams.add_beam.Goals as goal

-- the row of the uplink beam, and behind it that of the downlink beam
pub returns : goal.returns
returns c =
    let net = c.args.net.now in
    let rows = c.args.matrix.now in
    let beam = c.args.beam.0 in
    let name = sym (get_or_from_slice_get net.beams beam c.beam_name-name.result.now [] c.beam_name-name.ensures.name) in
    let up = same_way _ _ _ (beam_named net beam) (codes "up") _ (row_sum rows beam) _ net.slots name c.row_sum.ensures.sum c.slots-slots.ensures.same c.in_ok-add_way.ensures in
    let down = same_way_ok c.add_way-2.result _ _ _ (beam_named net beam) (codes "down") _ (column_sum rows beam) _ net.slots name c.column_sum.ensures.sum c.slots-slots.ensures.same c.add_way-2.ensures in
    two_added c.add_way-2.result _ _ _ (way_row (beam_named net beam) (codes "up") (row_sum rows beam) net.slots) (way_row (beam_named net beam) (codes "down") (column_sum rows beam) net.slots) up down
