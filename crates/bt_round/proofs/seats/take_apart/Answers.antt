-- the passes come in the order of their workers, and the readers in that of the desks
use Rattle.std.proofs.Common.{◌≡◌, ◌+◌, [], ◌∷◌, ◌++◌, List, Some, length, length-append, map, drop, get_or, sym, ap, ◌∙◌, subst, arith}
use Rattle.std.proofs.lemmas.Grind.{get_or_after_one}
use Rattle.std.proofs.lemmas.List.{append-nil, drop-drop, get_or_default, nil_from_length}
use Rattle.std.specs.Vec.Iter.{into_iter_items}
use Rattle.bt_shared.specs.Posted.{Posted}
use Rattle.bt_round.specs.Seats.{IsOfPlace, air_in, publisher_in, reader_in}
use Rattle.bt_round.proofs.Seating.{behind_is_desk, moved_on, moved_two, next_of}
use Rattle.bt_round.proofs.seats.take_apart.Goals as goal

pub leave_air-first-requires : goal.leave_air-first-requires
leave_air-first-requires g c = subst (λ w. IsOfPlace 0 w.job) (sym c.remove.ensures.value) (c.requires.jobs 0 c.remove.result (omega (arith, c.requires.seats)))

pub leave_plans-second-requires : goal.leave_plans-second-requires
leave_plans-second-requires g c =
    let all = c.args.workers.items in
    let left : c.remove.new.self.items ≡ drop 1 all = c.remove.ensures.by_index.2 in
    let second_is = c.remove-2.ensures.value ∙ ap (λ (l : List _). get_or l 0 c.remove-2.result) left ∙ get_or_after_one all 0 c.remove-2.result in
    subst (λ w. IsOfPlace 1 w.job) (sym second_is) (c.requires.jobs 1 c.remove-2.result (omega (arith, c.requires.seats)))

pub loop-worker-init : goal.loop-worker-init
loop-worker-init g c =
    let all = c.args.workers.items in
    let first = c.leave_air-first.result.0 in
    let second = c.leave_plans-second.result.0 in
    let two : c.push_reserved-2.new.self.items ≡ first ∷ second ∷ [] =
    c.push_reserved-2.ensures.items ∙ ap (λ (l : List _). l ++ second ∷ []) (c.push_reserved.ensures.items ∙ ap (λ (l : List _). l ++ first ∷ []) c.requires.none.0) in
    let long : length c.push_reserved-2.new.self.items ≡ 2 = ap length two in
    let left : c.remove.new.self.items ≡ drop 1 all = c.remove.ensures.by_index.2 in
    let others : into_iter_items c.into_iter-others.result ≡ drop 2 all =
    c.into_iter-others.ensures.rest ∙ c.remove-2.ensures.by_index.2 ∙ ap (drop 1) left ∙ drop-drop 1 1 all in
    let second_is = c.remove-2.ensures.value ∙ ap (λ (l : List _). get_or l 0 c.remove-2.result) left ∙ get_or_after_one all 0 c.remove-2.result in
    record {
      some = omega (arith, long);
      left = others ∙ ap (λ n. drop n all) (sym long);
      counted = omega (arith, long, c.into_iter-others.ensures.len, c.remove.ensures.len, c.remove-2.ensures.len, c.requires.seats);
      desks = omega (arith, ap length c.requires.none.1, c.into_iter-others.ensures.len, c.remove.ensures.len, c.remove-2.ensures.len, c.requires.seats);
      moved = ap (λ (l : List _). map (λ pass. pass.place) l ++ map (λ worker. worker.caller.place) (into_iter_items c.into_iter-others.result)) two
          ∙ ap (λ (l : List _). map (λ pass. pass.place) (first ∷ second ∷ []) ++ map (λ worker. worker.caller.place) l) others
          ∙ moved_two (λ pass. pass.place) (λ worker. worker.caller.place) first second c.remove.result c.remove-2.result all (omega (arith, c.requires.seats)) c.remove.ensures.value second_is
          c.leave_air-first.ensures.pass c.leave_plans-second.ensures.pass;
      read = ap (λ (l : List Posted). map (λ (reader : Posted). Some reader) l ++ map (λ worker. reader_in worker.job) (into_iter_items c.into_iter-others.result)) c.requires.none.1
          ∙ ap (λ (l : List _). map (λ worker. reader_in worker.job) l) others;
      room = omega (arith, c.push_reserved.ensures.capacity, c.push_reserved-2.ensures.capacity, c.requires.room.0);
      readers_room = c.requires.room.1;
    }

pub leave_desk-pass-requires : goal.leave_desk-pass-requires
leave_desk-pass-requires g c =
    let all = c.args.workers.items in
    let place = length c.loop-worker.passes.items in
    let next = next_of all place c.in-Some.worker (into_iter_items c.next.new.self) (sym c.loop-worker.invariant.left ∙ c.in-Some.ensures.items) in
    behind_is_desk c.in-Some.worker.job place c.loop-worker.invariant.some
    (subst (λ w. IsOfPlace place w.job) (next.next_is c.in-Some.worker) (c.requires.jobs place c.in-Some.worker next.within))

pub loop-worker-preserved : goal.loop-worker-preserved
loop-worker-preserved g c =
    let all = c.args.workers.items in
    let place = length c.loop-worker.passes.items in
    let worker = c.in-Some.worker in
    let rest = into_iter_items c.next.new.self in
    let next = next_of all place worker rest (sym c.loop-worker.invariant.left ∙ c.in-Some.ensures.items) in
    let passes = c.push_reserved-in-Some.ensures.items in
    let readers = c.push_reserved-in-Some-2.ensures.items in
    let longer : length c.push_reserved-in-Some.new.self.items ≡ place + 1 = ap length passes ∙ length-append c.loop-worker.passes.items (c.leave_desk-pass.result.0 ∷ []) in
    let more : length c.push_reserved-in-Some-2.new.self.items ≡ length c.loop-worker.readers.items + 1 =
    ap length readers ∙ length-append c.loop-worker.readers.items (c.leave_desk-pass.result.1 ∷ []) in
    record {
      some = omega (arith, longer, c.loop-worker.invariant.some);
      left = next.left_is ∙ ap (λ n. drop n all) (sym longer);
      counted = omega (arith, longer, c.loop-worker.invariant.counted, c.in-Some.ensures.len);
      desks = omega (arith, more, c.loop-worker.invariant.desks, c.in-Some.ensures.len);
      moved = ap (λ (l : List _). map (λ pass. pass.place) l ++ map (λ worker. worker.caller.place) rest) passes
          ∙ moved_on (λ pass. pass.place) (λ worker. worker.caller.place) c.loop-worker.passes.items c.leave_desk-pass.result.0 worker rest (map (λ worker. worker.caller.place) all)
          c.leave_desk-pass.ensures.pass
          (ap (λ (l : List _). map (λ pass. pass.place) c.loop-worker.passes.items ++ map (λ worker. worker.caller.place) l) (sym c.in-Some.ensures.items) ∙ c.loop-worker.invariant.moved);
      read = ap (λ (l : List Posted). map (λ (reader : Posted). Some reader) l ++ map (λ worker. reader_in worker.job) rest) readers
          ∙ moved_on (λ (reader : Posted). Some reader) (λ worker. reader_in worker.job) c.loop-worker.readers.items c.leave_desk-pass.result.1 worker rest (map (λ worker. reader_in worker.job) (drop 2 all))
          (sym c.leave_desk-pass.ensures.reader)
          (ap (λ (l : List _). map (λ (reader : Posted). Some reader) c.loop-worker.readers.items ++ map (λ worker. reader_in worker.job) l) (sym c.in-Some.ensures.items) ∙ c.loop-worker.invariant.read);
      room = omega (arith, c.push_reserved-in-Some.ensures.capacity, c.loop-worker.invariant.room);
      readers_room = omega (arith, c.push_reserved-in-Some-2.ensures.capacity, c.loop-worker.invariant.readers_room);
    }

pub returns-clause-passes : goal.returns-clause-passes
returns-clause-passes g c =
    let passes = map (λ pass. pass.place) c.loop-worker.passes.items in
    let none : into_iter_items c.loop-worker.others ≡ [] = nil_from_length (into_iter_items c.loop-worker.others) (omega (arith, c.loop-worker.others.rest.ok.0, c.in_default.ensures.cases.0)) in
    sym (append-nil passes) ∙ ap (λ (l : List _). passes ++ map (λ worker. worker.caller.place) l) (sym none) ∙ c.loop-worker.invariant.moved

pub returns-clause-readers : goal.returns-clause-readers
returns-clause-readers g c =
    let readers = map (λ reader. Some reader) c.loop-worker.readers.items in
    let none : into_iter_items c.loop-worker.others ≡ [] = nil_from_length (into_iter_items c.loop-worker.others) (omega (arith, c.loop-worker.others.rest.ok.0, c.in_default.ensures.cases.0)) in
    sym (append-nil readers) ∙ ap (λ (l : List _). readers ++ map (λ worker. reader_in worker.job) l) (sym none) ∙ c.loop-worker.invariant.read

pub returns-clause-centre : goal.returns-clause-centre
returns-clause-centre g c d =
    let all = c.args.workers.items in
    ap (λ w. air_in w.job) (sym (c.remove.ensures.value ∙ get_or_default all 0 c.remove.result d (omega (arith, c.requires.seats)))) ∙ c.leave_air-first.ensures.centre

pub returns-clause-publisher : goal.returns-clause-publisher
returns-clause-publisher g c d =
    let all = c.args.workers.items in
    let left : c.remove.new.self.items ≡ drop 1 all = c.remove.ensures.by_index.2 in
    let second_is = c.remove-2.ensures.value ∙ ap (λ (l : List _). get_or l 0 c.remove-2.result) left ∙ get_or_after_one all 0 c.remove-2.result in
    ap (λ w. publisher_in w.job) (sym (second_is ∙ get_or_default all 1 c.remove-2.result d (omega (arith, c.requires.seats)))) ∙ c.leave_plans-second.ensures.publisher
