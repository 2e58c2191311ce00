use Rattle.std.proofs.Common.{◌≡◌, ◌++◌, take, flat_map}
use Rattle.bt_look.specs.Room.{beams_of, rooms_from}
use Rattle.bt_look.proofs.capacity.add_rooms.Given as goal

-- the lines from the beams so far
abbrev pub invariant-loop-up : goal.invariant-loop-up
invariant-loop-up l = l.out.items ≡ l.fn.out.items ++ flat_map (rooms_from l.net l.matrix) (take l.up (beams_of l.net))
