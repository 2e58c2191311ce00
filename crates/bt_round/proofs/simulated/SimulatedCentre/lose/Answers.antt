use Rattle.std.proofs.Common.{ℕ, List, All, not, subst, sym}
use Rattle.std.proofs.lemmas.List.Elements.{All-filter}
use Rattle.bt_air.specs.declared.sent.Place.{Place}
use Rattle.bt_round.specs.Waiting.{loses}
use Rattle.bt_round.specs.Worker.{CanHear}
use Rattle.bt_round.proofs.simulated.SimulatedCentre.lose.Goals as goal

pub invariant_of-self : goal.invariant_of-self
invariant_of-self g c = record {
  world = c.self.invariant.world;
  waiting = subst (λ (l : List (ℕ × Place)). All (CanHear c.self.inside.world) l) (sym c.lose-lost.ensures.left)
      (All-filter (λ (delivery : ℕ × Place). not (loses c.args.losing delivery.1)) (CanHear c.self.inside.world) c.self.inside.waiting c.self.invariant.waiting);
  back = c.self.invariant.back;
  standby = c.self.invariant.standby;
}
