use Rattle.bt_matrix.specs.Dense.{IsFirstGreatest}
use Rattle.std.proofs.Common.{take}
use Rattle.bt_matrix.proofs.heaviest.first_greatest.Given as goal

-- the greatest of the numbers before place k
abbrev pub invariant-loop-k : goal.invariant-loop-k
invariant-loop-k l = IsFirstGreatest (take l.k l.numbers) l.place l.most
