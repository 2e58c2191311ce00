use Rattle.std.proofs.Common.{◌≡◌, ◌++◌, take, flat_map}
use Rattle.bt_export.specs.Edits.{surplus}
use Rattle.bt_export.proofs.surplus.add_rows.Given as goal

-- what was found among the rows so far
abbrev pub invariant-loop-row : goal.invariant-loop-row
invariant-loop-row l = l.found.items ≡ l.fn.found.items ++ flat_map (λ row. surplus row l.others) (take l.row-index l.rows)
