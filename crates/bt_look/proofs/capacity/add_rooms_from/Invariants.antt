use Rattle.std.proofs.Common.{◌≡◌, ◌++◌, take, flat_map}
use Rattle.bt_look.specs.Room.{beams_of, room_line}
use Rattle.bt_look.proofs.capacity.add_rooms_from.Given as goal

-- the lines of the beams so far
abbrev pub invariant-loop-down : goal.invariant-loop-down
invariant-loop-down l = l.out.items ≡ l.fn.out.items ++ flat_map (room_line l.net l.matrix l.up.0) (take l.down (beams_of l.net))
