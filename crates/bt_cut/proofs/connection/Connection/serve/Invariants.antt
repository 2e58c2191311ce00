use Rattle.std.proofs.Common.{◌≡◌, ◌⊎◌, ◌-◌, ◌≤◌}
use Rattle.bt_cut.specs.Serving.{taken_of, HasGiven, IsServedBy}
use Rattle.bt_cut.proofs.connection.Connection.serve.Given as goal

-- the pieces of the units so far, and the first slot that is free stands at the start of a span unless none were taken
abbrev pub invariant-loop-left : goal.invariant-loop-left
invariant-loop-left l = record {
  within : l.left ≤ l.link.units;
  given : HasGiven l.fn.self l.self (l.link.units - l.left);
  whole : (l.left ≡ 0) ⊎ ((l.self.used ≡ 0) ⊎ (l.left ≡ l.link.units));
  served : IsServedBy l.fn.self.spans.items l.link.from l.link.to (taken_of l.fn.self) (l.link.units - l.left) l.fn.bursts.items l.bursts.items;
}

abbrev pub decreases-loop-left : goal.decreases-loop-left
decreases-loop-left l = l.left
