use Rattle.bt_demand.specs.declared.burst.Burst.{Burst}
use Rattle.bt_demand.proofs.SentTable.{AreAdded}
use Rattle.bt_demand.proofs.serving.slots_by_link.Given as goal

-- the slots of the bursts so far
abbrev pub invariant-loop-burst : goal.invariant-loop-burst
invariant-loop-burst l = AreAdded (λ (b : Burst). b.from.0) (λ (b : Burst). b.to.0) (λ (b : Burst). b.length) l.bursts l.burst-index l.slots
