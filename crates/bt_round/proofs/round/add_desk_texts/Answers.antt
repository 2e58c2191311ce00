-- each desk has its worker, behind the two others, and its text comes behind those before it
use Rattle.std.proofs.Common.{◌≡◌, ◌+◌, ◌++◌, ℕ, List, ap, ◌∙◌, subst, sym, get_or, arith}
use Rattle.bt_round.proofs.Apart.{text_more}
use Rattle.bt_round.proofs.round.add_desk_texts.Goals as goal

pub offset_bounds-workers-from : goal.offset_bounds-workers-from
offset_bounds-workers-from g c =
    let range = c.requires.desks.numbered c.loop-desk.desk-index c.desk-item.result c.loop-desk-test.true in
    omega (arith, range.1, ap (λ desk. desk.0) c.desk-item.is, c.from.ensures, c.requires.seats)

pub bounds-workers-from : goal.bounds-workers-from
bounds-workers-from g c =
    let range = c.requires.desks.numbered c.loop-desk.desk-index c.desk-item.result c.loop-desk-test.true in
    omega (arith, range.1, ap (λ desk. desk.0) c.desk-item.is, c.from.ensures, c.requires.seats)

pub loop-desk-preserved : goal.loop-desk-preserved
loop-desk-preserved g c =
    let range = c.requires.desks.numbered c.loop-desk.desk-index c.desk-item.result c.loop-desk-test.true in
    let worker = c.index-workers-from.result in
    let worker_is : worker ≡ get_or c.args.workers.now (c.desk-item.result.0 + 1) worker = subst (λ (n : ℕ). worker ≡ get_or c.args.workers.now (n + 1) worker) c.from.ensures c.index-workers-from.is in
    text_more (λ desk. desk.0 + 1) (λ worker. worker.text.items) c.args.workers.now c.args.desks.now c.loop-desk.desk-index c.desk-item.result worker c.args.text.now.items c.loop-desk.text.items
    c.extend_from_slice.new.self.items c.loop-desk-test.true c.desk-item.is (omega (arith, range.1, ap (λ desk. desk.0) c.desk-item.is, c.requires.seats)) worker_is c.loop-desk.invariant
    (c.in_ok-extend_from_slice.ensures.items ∙ ap (λ (t : List ℕ). c.loop-desk.text.items ++ t) (c.as_slice.ensures.value ∙ ap (λ worker. worker.text.items) (sym c.index-workers-from.is)))
