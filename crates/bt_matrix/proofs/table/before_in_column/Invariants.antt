use Rattle.std.proofs.Common.{◌≡◌, take, map}
use Rattle.bt_matrix.specs.Links.{nodes_of, last_or}
use Rattle.bt_matrix.specs.Table.{column_of}
use Rattle.bt_matrix.proofs.table.before_in_column.Given as goal

-- the last node of the lines so far
abbrev pub invariant-loop-line : goal.invariant-loop-line
invariant-loop-line l = l.last ≡ last_or l.head (nodes_of (column_of (map (λ line. line.items) (take l.line-index l.table)) l.down.0))
