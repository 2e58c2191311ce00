use Rattle.std.proofs.Common.{◌≡◌, Some, map, take}
use Rattle.bt_modes.proofs.partial.copy_columns.Given as goal

-- the rows so far have the columns of the permutation
abbrev pub invariant-loop-row : goal.invariant-loop-row
invariant-loop-row l = take l.row l.columns ≡ map Some (take l.row l.perm)
