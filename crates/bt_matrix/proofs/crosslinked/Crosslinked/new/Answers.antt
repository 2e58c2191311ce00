use Rattle.std.proofs.Common.{arith}
use Rattle.bt_matrix.proofs.Empty.{IsCrosslinked-empty, rows_of-none}
use Rattle.bt_matrix.proofs.crosslinked.Crosslinked.new.Goals as goal

pub invariant_of-result : goal.invariant_of-result
invariant_of-result c = (
  rw c.in_ok-table.ensures (rw c.in_ok-free.ensures.items (IsCrosslinked-empty c.in_ok-nodes.nodes.items c.args.size c.in_ok-nodes.ensures.heads c.requires.some c.requires.few)),
  omega (arith, c.in_ok-nodes.ensures.room, c.in_ok-free.ensures.capacity),
  omega (arith, c.in_ok-nodes.ensures.room, c.requires.few),
)

pub returns : goal.returns
returns c = record { zeros = rw c.in_ok-table.ensures (rows_of-none _ c.args.size) }
