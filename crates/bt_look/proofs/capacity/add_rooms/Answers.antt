use Rattle.std.proofs.Common.{◌<◌, ◌≤◌, length, arith}
use Rattle.bt_look.specs.Room.{rooms_from}
use Rattle.bt_look.proofs.Beams.{all_beams, next_beam}
use Rattle.bt_look.proofs.capacity.add_rooms.Goals as goal

pub loop-up-preserved : goal.loop-up-preserved
loop-up-preserved c =
    let within : c.loop-up.up < length c.args.net.now.beams = omega arith in
    next_beam c.args.net.now (rooms_from c.args.net.now c.args.matrix.now) c.loop-up.up _ _ _ within c.loop-up.invariant c.in_ok-add_rooms_from.ensures.added

pub returns : goal.returns
returns c =
    let past : length c.args.net.now.beams ≤ c.loop-up.up = omega arith in
    record { added = all_beams c.args.net.now (rooms_from c.args.net.now c.args.matrix.now) c.loop-up.up _ _ past c.loop-up.invariant }
