use Rattle.std.proofs.Common.{◌≡◌, map}
use Rattle.std.specs.List.{range_with_len}
use Rattle.bt_trans.specs.Border.{cell_of}
use Rattle.bt_trans.proofs.border.cells.Given as goal

-- the rows so far
abbrev pub invariant-loop-up : goal.invariant-loop-up
invariant-loop-up l = map (λ row. row.items) l.rows.items ≡ map (λ up. map (cell_of l.matrix l.cuts.inner l.cuts.sum up) (range_with_len 0 l.lines)) (range_with_len 0 l.up)
