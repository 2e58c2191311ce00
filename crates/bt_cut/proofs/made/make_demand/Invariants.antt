use Rattle.std.proofs.Common.{◌*◌, ◌-◌, [], length}
use Rattle.bt_cut.specs.Standing.{Stands}
use Rattle.bt_cut.proofs.Going.{GoesOn}
use Rattle.bt_cut.proofs.made.make_demand.Given as goal

-- what is made stands, and the attempts that are left make of it what all make of nothing
abbrev pub invariant-loop : goal.invariant-loop
invariant-loop l = record {
  stands : Stands l.net l.made;
  so : GoesOn l.net (length l.net.terminals) (64 * length l.net.beams) l.number [] l.made.demand (64 * length l.net.beams - l.counter) l.generator.state;
}
