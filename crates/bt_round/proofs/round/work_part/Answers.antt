-- one worker more
use Rattle.std.proofs.Common.{◌<◌, length, length-set, subst, ◌∙◌, arith}
use Rattle.std.proofs.lemmas.List.{get_or_default, get_or-set_other}
use Rattle.bt_round.specs.Workers.{WorkDone}
use Rattle.bt_round.proofs.Seating.{turned}
use Rattle.bt_round.proofs.round.work_part.Goals as goal

pub loop-worker-preserved : goal.loop-worker-preserved
loop-worker-preserved g c =
    let index = c.loop-worker.worker-index in
    let items = c.loop-worker.worker-items in
    let new = c.work.new.worker in
    let within : index < length items = omega (arith, c.loop-worker-test.true, c.loop-worker.invariant.count) in
    record {
      count = length-set items index new ∙ c.loop-worker.invariant.count;
      done = turned (WorkDone c.args.net.now) c.args.workers.now items index new within c.loop-worker.invariant.done
          (λ d. subst (λ w. WorkDone c.args.net.now w new)
          (get_or_default items index c.worker-item.result d within ∙ c.loop-worker.invariant.left index d (omega arith)) c.work.ensures.done);
      left = λ i d past. get_or-set_other items index i new d (λ same. absurd (omega (arith, same, past))) ∙ c.loop-worker.invariant.left i d (omega (arith, past));
    }
