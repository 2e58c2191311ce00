use Rattle.std.proofs.Common.{◌≡◌, Some, map, take}
use Rattle.bt_modes.proofs.perm.write_columns.Given as goal

-- the columns of the rows so far are written
abbrev pub invariant-loop-row : goal.invariant-loop-row
invariant-loop-row l = map Some (take l.row l.perm) ≡ take l.row l.columns
