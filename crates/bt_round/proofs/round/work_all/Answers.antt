-- the first work apart, each in a chunk of its own, and then the others
use Rattle.std.proofs.Common.{◌≡◌, ◌+◌, ◌-◌, ◌++◌, All, take, drop, length, get_or, sym, ◌∙◌, subst, arith}
use Rattle.std.proofs.lemmas.List.{get_or-take, length-take-le}
use Rattle.std.proofs.lemmas.List.Elements.{All-drop, All-take}
use Rattle.bt_round.specs.declared.workers.Worker.{Worker}
use Rattle.bt_round.specs.Workers.{CanDo, WorkDone}
use Rattle.bt_round.proofs.Apart.{all_turned, others_are}
use Rattle.bt_round.proofs.round.work_all.Goals as goal

pub for_each_chunk_mut-requires-clause-accepts : goal.for_each_chunk_mut-requires-clause-accepts
for_each_chunk_mut-requires-clause-accepts g c κs within = λ start p chunk k d less.
    let Can : Worker g.row.G.Denot g.row.K.Denot g.row.E.Denot → Type 0 = λ worker. (worker.caller.start.net ≡ c.args.net.now) × CanDo c.args.net.now worker.caller worker.job in
    subst Can (sym (chunk.elements k d less)) (All-take Can c.args.apart c.args.workers.now c.requires.can (start + k) d (omega (arith, chunk.in_bounds, less)))

pub work_part-requires : goal.work_part-requires
work_part-requires g c =
    let Can : Worker g.row.G.Denot g.row.K.Denot g.row.E.Denot → Type 0 = λ worker. (worker.caller.start.net ≡ c.args.net.now) × CanDo c.args.net.now worker.caller worker.job in
    let long : length c.for_each_chunk_mut.new.s ≡ c.args.apart = c.for_each_chunk_mut.auto.s ∙ length-take-le c.args.apart c.args.workers.now c.requires.apart in
    record { can = subst (All Can) (sym (others_are c.args.apart c.args.workers.now c.for_each_chunk_mut.new.s long)) (All-drop Can c.args.apart c.args.workers.now c.requires.can) }

pub returns-clause-done : goal.returns-clause-done
returns-clause-done g c =
    let net = c.args.net.now in
    let apart = c.args.apart in
    let all = c.args.workers.now in
    let first = c.for_each_chunk_mut.new.s in
    let short : length (take apart all) ≡ apart = length-take-le apart all c.requires.apart in
    let long : length first ≡ apart = c.for_each_chunk_mut.auto.s ∙ short in
    all_turned (WorkDone net) apart all first (take (length (first ++ drop apart all) - apart) (drop apart (first ++ drop apart all))) c.work_part.new.workers _ long (others_are apart all first long) c.work_part.ensures.length
    (λ i d below.
    let it = (c.for_each_chunk_mut.ensures.by_index i d (omega (arith, below, short))).1 in
    let done : WorkDone net (get_or it.argument.now it.offset d) (get_or it.after_call.now it.offset d) = it.call it.offset d it.offset_in_chunk in
    subst (λ w. WorkDone net w (get_or first i d)) (it.old_element ∙ get_or-take apart all i d below) (subst (λ w. WorkDone net (get_or it.argument.now it.offset d) w) it.new_element done))
    c.work_part.ensures.done
