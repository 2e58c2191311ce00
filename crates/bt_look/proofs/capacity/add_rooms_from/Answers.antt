use Rattle.std.proofs.Common.{◌<◌, ◌≤◌, length, arith}
use Rattle.bt_look.specs.Room.{room_line}
use Rattle.bt_look.proofs.Beams.{all_beams, next_beam}
use Rattle.bt_look.proofs.capacity.add_rooms_from.Goals as goal

pub loop-down-preserved : goal.loop-down-preserved
loop-down-preserved c =
    let within : c.loop-down.down < length c.args.net.now.beams = omega arith in
    next_beam c.args.net.now (room_line c.args.net.now c.args.matrix.now c.args.up.0) c.loop-down.down _ _ _ within c.loop-down.invariant c.in_ok-add_room.ensures

pub returns : goal.returns
returns c =
    let past : length c.args.net.now.beams ≤ c.loop-down.down = omega arith in
    record { added = all_beams c.args.net.now (room_line c.args.net.now c.args.matrix.now c.args.up.0) c.loop-down.down _ _ past c.loop-down.invariant }
