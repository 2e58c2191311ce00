use Rattle.std.proofs.Common.{◌≡◌}
use Rattle.bt_demand.specs.Plan.{begin_of}
use Rattle.bt_cut.specs.Serving.{IsTable}
use Rattle.bt_cut.proofs.table.connections_of.Given as goal

-- each connection has the slots of the modes so far
abbrev pub invariant-loop-mode : goal.invariant-loop-mode
invariant-loop-mode l = record {
  begins : l.start ≡ begin_of l.modes l.mode-index;
  so_far : IsTable l.modes l.beams l.mode-index (λ _ _. 0) l.table.items;
}
