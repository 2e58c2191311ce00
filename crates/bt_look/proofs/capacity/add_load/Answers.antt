use Rattle.std.proofs.Common.{[], codes, sym}
use Rattle.std.proofs.lemmas.Option.{get_or_from_slice_get}
use Rattle.bt_matrix.specs.Traffic.{column_sum, row_sum}
use Rattle.bt_look.specs.Room.{beam_named, down_line, up_line}
use Rattle.bt_look.proofs.Beams.{same_side, same_side_ok, two_added}
use Rattle.bt_look.proofs.capacity.add_load.Goals as goal

-- the line of the uplink beam, and behind it that of the downlink beam
pub returns : goal.returns
returns c =
    let net = c.args.net.now in
    let rows = c.args.matrix.now in
    let beam = c.args.beam.0 in
    let name = sym (get_or_from_slice_get net.beams beam c.beam_name-name.result.now [] c.beam_name-name.ensures.name) in
    let up = same_side _ _ (codes "up") _ (beam_named net beam) _ (row_sum rows beam) _ net.slots name c.row_sum.ensures.sum c.slots-slots.ensures.same c.in_ok-add_side.ensures in
    let down = same_side_ok c.add_side-2.result _ _ (codes "down") _ (beam_named net beam) _ (column_sum rows beam) _ net.slots name c.column_sum.ensures.sum c.slots-slots.ensures.same c.add_side-2.ensures in
    record { added = two_added c.add_side-2.result _ _ _ (up_line net rows beam) (down_line net rows beam) up down }
