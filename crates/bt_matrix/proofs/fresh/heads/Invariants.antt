use Rattle.std.proofs.Common.{◌≡◌, vec_capacity}
use Rattle.bt_matrix.specs.Links.{AreHeads}
use Rattle.bt_matrix.proofs.fresh.heads.Given as goal

-- the heads so far
abbrev pub invariant-loop-beam : goal.invariant-loop-beam
invariant-loop-beam l = AreHeads l.nodes.items l.beam × (vec_capacity l.nodes ≡ l.size)
