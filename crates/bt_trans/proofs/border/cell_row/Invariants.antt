use Rattle.std.proofs.Common.{◌≡◌, map}
use Rattle.std.specs.List.{range_with_len}
use Rattle.bt_trans.specs.Border.{cell_of}
use Rattle.bt_trans.proofs.border.cell_row.Given as goal

-- the entries so far
abbrev pub invariant-loop-down : goal.invariant-loop-down
invariant-loop-down l = l.row.items ≡ map (cell_of l.matrix l.cuts.inner l.cuts.sum l.up) (range_with_len 0 l.down)
