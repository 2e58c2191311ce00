use Rattle.std.proofs.Common.{◌≡◌, drop}
use Rattle.bt_round.specs.Seats.{lines_of}
use Rattle.bt_round.proofs.seats.lines_of.Given as goal

-- none of the desks so far has the number
abbrev pub invariant-loop-desk : goal.invariant-loop-desk
invariant-loop-desk l = lines_of l.number (drop l.desk-index l.desks) ≡ lines_of l.number l.desks
