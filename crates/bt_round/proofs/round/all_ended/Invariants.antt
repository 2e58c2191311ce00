use Rattle.std.proofs.Common.{All, IsOk, take}
use Rattle.bt_round.proofs.round.all_ended.Given as goal

-- memory ran out for none so far
abbrev pub invariant-loop-worker : goal.invariant-loop-worker
invariant-loop-worker g l = All (λ worker. IsOk worker.ended) (take l.worker-index l.workers)
