use Rattle.std.proofs.Common.{◌≡◌}
use Rattle.bt_round.specs.Worker.{ComeFirst, Plays}
use Rattle.bt_round.proofs.simulated.SimulatedCentre.hear_first.Given as goal

-- so many came
abbrev pub invariant-loop-come : goal.invariant-loop-come
invariant-loop-come g l = record {
  opening : l.self.life.opening ≡ l.fn.self.life.opening;
  came : Plays (ComeFirst l.net l._come l.fn.self) l.self l.fn.text.items l.text.items;
}
