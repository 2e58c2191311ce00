-- the next pass gets its worker
use Rattle.std.proofs.Common.{◌≡◌, ◌+◌, [], ◌∷◌, ◌++◌, All, List, length, length-append, drop, get_or, refl, sym, ap, ◌∙◌, subst, arith}
use Rattle.std.proofs.lemmas.Grind.{get_or_after_one}
use Rattle.std.proofs.lemmas.List.{drop-drop}
use Rattle.std.proofs.lemmas.List.Elements.{All-head, All-tail}
use Rattle.std.specs.Vec.Iter.{into_iter_items}
use Rattle.bt_shared.specs.Passes.{IsPass, seen_at}
use Rattle.bt_shared.specs.Posted.{Posted}
use Rattle.bt_round.specs.declared.seats.TheConstants.{SEATS}
use Rattle.bt_round.specs.Seats.{AllAt, IsJobAt, IsReady}
use Rattle.bt_round.proofs.Seating.{all_at_push, next_of, only_one, seated, taken}
use Rattle.bt_round.proofs.seats.seat_all.Goals as goal

pub loop-pass-init : goal.loop-pass-init
loop-pass-init g c =
    let all = c.args.crew.passes.items in
    let table = c.args.line.now.table.shared.table_id in
    let start = c.args.line.now.table.shared.key.value in
    let round = c.args.round.now in
    let posted = c.args.crew.publisher in
    let centre = c.args.crew.centre in
    let first = c.remove-first.result in
    let second = c.remove-second.result in
    let one : c.push_reserved.new.self.items ≡ c.seat.result ∷ [] = c.push_reserved.ensures.items ∙ ap (λ (w : List _). w ++ c.seat.result ∷ []) c.requires.none in
    let two : c.push_reserved-2.new.self.items ≡ c.push_reserved.new.self.items ++ c.seat-2.result ∷ [] = c.push_reserved-2.ensures.items in
    let long : length c.push_reserved-2.new.self.items ≡ 2 = ap length (two ∙ ap (λ (w : List _). w ++ c.seat-2.result ∷ []) one) in
    let left : c.remove-first.new.self.items ≡ drop 1 all = c.remove-first.ensures.by_index.2 in
    let later : c.remove-second.new.self.items ≡ drop 2 all = c.remove-second.ensures.by_index.2 ∙ ap (drop 1) left ∙ drop-drop 1 1 all in
    let second_is : second ≡ get_or all 1 second = c.remove-second.ensures.value ∙ ap (λ (l : List _). get_or l 0 second) left ∙ get_or_after_one all 0 second in
    let ready : IsReady table start round posted centre 0 c.seat.result.caller c.seat.result.job c.seat.result.text.items =
    seated table start round posted centre 0 first.place c.seat.result.caller c.seat.result.job c.seat.result.text.items
    (subst (λ p. IsPass table start SEATS 0 p.place) (sym c.remove-first.ensures.value) (c.requires.passes 0 first (omega (arith, c.requires.seats))))
    (subst (λ p. seen_at p.place ≡ []) (sym c.remove-first.ensures.value) (c.requires.unseen 0 first (omega (arith, c.requires.seats))))
    c.seat.ensures.caller (subst (IsJobAt round posted centre 0) (sym c.seat.ensures.job) (refl, c.as_slice.ensures.same, refl)) c.seat.ensures.text in
    let next : IsReady table start round posted centre 1 c.seat-2.result.caller c.seat-2.result.job c.seat-2.result.text.items =
    seated table start round posted centre 1 second.place c.seat-2.result.caller c.seat-2.result.job c.seat-2.result.text.items
    (subst (λ p. IsPass table start SEATS 1 p.place) (sym second_is) (c.requires.passes 1 second (omega (arith, c.requires.seats))))
    (subst (λ p. seen_at p.place ≡ []) (sym second_is) (c.requires.unseen 1 second (omega (arith, c.requires.seats))))
    c.seat-2.ensures.caller (subst (IsJobAt round posted centre 1) (sym c.seat-2.ensures.job) (refl, refl, refl)) c.seat-2.ensures.text in
    record {
      some = omega (arith, long);
      left = c.into_iter-others.ensures.rest ∙ later ∙ ap (λ n. drop n all) (sym long);
      counted = omega (arith, long, c.into_iter-others.ensures.len, c.remove-first.ensures.len, c.remove-second.ensures.len, c.requires.seats);
      readers = omega (arith, long, ap length c.into_iter-readers.ensures.rest, c.requires.desks);
      met = subst (All (λ (reader : Posted). reader ≡ posted)) (sym c.into_iter-readers.ensures.rest) c.requires.met;
      room = omega (arith, c.push_reserved.ensures.capacity, c.push_reserved-2.ensures.capacity, c.requires.room);
      ready = subst (AllAt (λ at seat. IsReady table start round posted centre at seat.caller seat.job seat.text.items)) (sym two)
          (all_at_push c.push_reserved.new.self.items c.seat-2.result (λ at seat. IsReady table start round posted centre at seat.caller seat.job seat.text.items)
          (only_one c.push_reserved.new.self.items c.seat.result one (λ at seat. IsReady table start round posted centre at seat.caller seat.job seat.text.items) ready)
          (subst (λ n. IsReady table start round posted centre n c.seat-2.result.caller c.seat-2.result.job c.seat-2.result.text.items) (sym (ap length one)) next));
    }

pub seat-requires-clause-of_line : goal.seat-requires-clause-of_line
seat-requires-clause-of_line g c =
    let table = c.args.line.now.table.shared.table_id in
    let start = c.args.line.now.table.shared.key.value in
    let first = c.remove-first.result in
    let pass : IsPass table start SEATS 0 first.place = subst (λ p. IsPass table start SEATS 0 p.place) (sym c.remove-first.ensures.value) (c.requires.passes 0 first (omega (arith, c.requires.seats))) in
    subst (λ n. IsPass table start SEATS n first.place) (sym pass.number_is ∙ first.numbered) pass

pub seat-requires-2-clause-of_line : goal.seat-requires-2-clause-of_line
seat-requires-2-clause-of_line g c =
    let all = c.args.crew.passes.items in
    let table = c.args.line.now.table.shared.table_id in
    let start = c.args.line.now.table.shared.key.value in
    let second = c.remove-second.result in
    let left : c.remove-first.new.self.items ≡ drop 1 all = c.remove-first.ensures.by_index.2 in
    let second_is : second ≡ get_or all 1 second = c.remove-second.ensures.value ∙ ap (λ (l : List _). get_or l 0 second) left ∙ get_or_after_one all 0 second in
    let pass : IsPass table start SEATS 1 second.place = subst (λ p. IsPass table start SEATS 1 p.place) (sym second_is) (c.requires.passes 1 second (omega (arith, c.requires.seats))) in
    subst (λ n. IsPass table start SEATS n second.place) (sym pass.number_is ∙ second.numbered) pass

pub desk_job-job-requires : goal.desk_job-job-requires
desk_job-job-requires g c =
    let all = c.args.crew.passes.items in
    let place = length c.loop-pass.workers.items in
    let next = next_of all place c.in-Some.pass (into_iter_items c.next.new.self) (sym c.loop-pass.invariant.left ∙ c.in-Some.ensures.items) in
    let is = taken c.args.line.now.table.shared.table_id c.args.line.now.table.shared.key.value (λ p. p.place) all place c.in-Some.pass.number c.in-Some.pass (into_iter_items c.next.new.self)
    (omega (arith, c.requires.seats)) c.requires.passes c.requires.unseen next c.in-Some.pass.numbered in
    record { number = (omega (arith, is.number_is, c.loop-pass.invariant.some), is.small) }

pub seat-requires-in-Some-clause-of_line : goal.seat-requires-in-Some-clause-of_line
seat-requires-in-Some-clause-of_line g c =
    let all = c.args.crew.passes.items in
    let table = c.args.line.now.table.shared.table_id in
    let start = c.args.line.now.table.shared.key.value in
    let place = length c.loop-pass.workers.items in
    let next = next_of all place c.in-Some.pass (into_iter_items c.next.new.self) (sym c.loop-pass.invariant.left ∙ c.in-Some.ensures.items) in
    let is = taken table start (λ p. p.place) all place c.in-Some.pass.number c.in-Some.pass (into_iter_items c.next.new.self)
    (omega (arith, c.requires.seats)) c.requires.passes c.requires.unseen next c.in-Some.pass.numbered in
    subst (λ n. IsPass table start SEATS n c.in-Some.pass.place) (sym is.number_is) is.is_pass

pub seat-requires-in-Some-clause-unseen : goal.seat-requires-in-Some-clause-unseen
seat-requires-in-Some-clause-unseen g c =
    let all = c.args.crew.passes.items in
    let place = length c.loop-pass.workers.items in
    let next = next_of all place c.in-Some.pass (into_iter_items c.next.new.self) (sym c.loop-pass.invariant.left ∙ c.in-Some.ensures.items) in
    (taken c.args.line.now.table.shared.table_id c.args.line.now.table.shared.key.value (λ p. p.place) all place c.in-Some.pass.number c.in-Some.pass (into_iter_items c.next.new.self)
    (omega (arith, c.requires.seats)) c.requires.passes c.requires.unseen next c.in-Some.pass.numbered).unseen

pub loop-pass-preserved : goal.loop-pass-preserved
loop-pass-preserved g c =
    let all = c.args.crew.passes.items in
    let table = c.args.line.now.table.shared.table_id in
    let start = c.args.line.now.table.shared.key.value in
    let round = c.args.round.now in
    let posted = c.args.crew.publisher in
    let centre = c.args.crew.centre in
    let place = length c.loop-pass.workers.items in
    let pass = c.in-Some.pass in
    let reader = c.in-Some-next.reader in
    let rest = into_iter_items c.next-in-Some.new.self in
    let next = next_of all place pass (into_iter_items c.next.new.self) (sym c.loop-pass.invariant.left ∙ c.in-Some.ensures.items) in
    let is = taken table start (λ p. p.place) all place pass.number pass (into_iter_items c.next.new.self)
    (omega (arith, c.requires.seats)) c.requires.passes c.requires.unseen next pass.numbered in
    let IsMet : Posted → Type 0 = λ (p : Posted). p ≡ posted in
    let all_met : All IsMet (reader ∷ rest) = subst (All IsMet) c.in-Some-next.ensures.items c.loop-pass.invariant.met in
    let worker = c.seat-in-Some.result in
    let job : IsJobAt round posted centre place c.desk_job-job.result =
    subst (λ n. IsJobAt round posted centre n c.desk_job-job.result) is.number_is
    (subst (λ (p : Posted). IsJobAt round p centre pass.number c.desk_job-job.result) (All-head IsMet reader rest all_met) (c.desk_job-job.ensures.job centre)) in
    let ready : IsReady table start round posted centre place worker.caller worker.job worker.text.items =
    seated table start round posted centre place pass.place worker.caller worker.job worker.text.items is.is_pass is.unseen c.seat-in-Some.ensures.caller
    (subst (IsJobAt round posted centre place) (sym c.seat-in-Some.ensures.job) job) c.seat-in-Some.ensures.text in
    let more : c.push_reserved-in-Some.new.self.items ≡ c.loop-pass.workers.items ++ worker ∷ [] = c.push_reserved-in-Some.ensures.items in
    let longer : length c.push_reserved-in-Some.new.self.items ≡ place + 1 = ap length more ∙ length-append c.loop-pass.workers.items (worker ∷ []) in
    record {
      some = omega (arith, longer, c.loop-pass.invariant.some);
      left = next.left_is ∙ ap (λ n. drop n all) (sym longer);
      counted = omega (arith, longer, c.loop-pass.invariant.counted, c.in-Some.ensures.len);
      readers = omega (arith, longer, c.loop-pass.invariant.readers, ap length c.in-Some-next.ensures.items);
      met = All-tail IsMet reader rest all_met;
      room = omega (arith, c.push_reserved-in-Some.ensures.capacity, c.loop-pass.invariant.room);
      ready = subst (AllAt (λ at seat. IsReady table start round posted centre at seat.caller seat.job seat.text.items)) (sym more)
          (all_at_push c.loop-pass.workers.items worker (λ at seat. IsReady table start round posted centre at seat.caller seat.job seat.text.items) c.loop-pass.invariant.ready ready);
    }
