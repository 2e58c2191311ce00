-- one worker more has not run out of memory
use Rattle.std.proofs.Common.{All, IsOk, subst, arith, rules}
use Rattle.std.proofs.lemmas.List.{take_all}
use Rattle.std.proofs.lemmas.List.Elements.{All-more}
use Rattle.bt_round.proofs.round.all_ended.Goals as goal

pub loop-worker-preserved : goal.loop-worker-preserved
loop-worker-preserved g c =
    let ok : IsOk c.worker-item.result.ended = search rules in
    All-more (λ worker. IsOk worker.ended) c.args.workers.now c.loop-worker.worker-index c.worker-item.result c.loop-worker-test.true c.loop-worker.invariant
    (subst (λ worker. IsOk worker.ended) c.worker-item.is ok)

pub returns : goal.returns
returns g c = subst (All (λ worker. IsOk worker.ended)) (take_all c.loop-worker.worker-index c.args.workers.now (omega arith)) c.loop-worker.invariant
