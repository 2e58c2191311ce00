use Rattle.std.proofs.Common.{◌≡◌, ◌*◌, ◌≤◌, sum, sum_by, take}
use Rattle.bt_trans.proofs.least.total_of.Given as goal

-- the rows so far
abbrev pub invariant-loop-up : goal.invariant-loop-up
invariant-loop-up l = record {
  so_far : l.total ≡ sum_by sum (take l.up l.matrix);
  small : l.total ≤ 1048576 * l.up;
}
