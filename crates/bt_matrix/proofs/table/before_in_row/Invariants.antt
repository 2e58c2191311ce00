use Rattle.std.proofs.Common.{◌≡◌, take}
use Rattle.bt_matrix.specs.Links.{nodes_of, last_or}
use Rattle.bt_matrix.proofs.table.before_in_row.Given as goal

-- the last node of the places so far
abbrev pub invariant-loop-at : goal.invariant-loop-at
invariant-loop-at l = l.last ≡ last_or l.head (nodes_of (take l.at-index l.line))
