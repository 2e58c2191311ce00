-- the workers are seated, do their lines, and leave
use Rattle.std.proofs.Common.{◌≡◌, ◌+◌, ◌++◌, All, IsOk, List, Some, drop, length, map, get_or, ap, sym, ◌∙◌, subst}
use Rattle.std.specs.List.{flat_map}
use mathlib.Core.List.{IsPrefix}
use Rattle.bt_shared.specs.Posted.{Posted}
use Rattle.bt_round.specs.Seats.{AllAt, IsOfPlace, IsReady, air_in, publisher_in, reader_in, text_at}
use Rattle.bt_round.proofs.OnOk.{on_both, on_ok, where_ok}
use Rattle.bt_round.proofs.Closing.{AreOver, all_done, are_over, as_many, boards_are, count_readers, passes_are, placed, publisher_of, readers_of, still_opening, written_back}
use Rattle.bt_round.proofs.DeskSeats.{Desk}
use Rattle.bt_round.proofs.Seating.{ready_can}
use Rattle.bt_round.proofs.round.run_on.Goals as goal

pub work_all-requires-clause-can : goal.work_all-requires-clause-can
work_all-requires-clause-can g c = λ κs bounds k d within.
    let table = c.args.line.now.table.shared.table_id in
    let start = c.args.line.now.table.shared.key.value in
    let posted = c.args.crew.publisher in
    let ready = subst (AllAt (λ place worker. IsReady table start c.args.round.now posted c.args.crew.centre place worker.caller worker.job worker.text.items)) (sym c.deref_mut.ensures.value) c.seat_all-workers.ensures.ready in
    ready_can c.args.net.now table start c.args.round.now posted c.args.crew.centre k _ _ _ c.requires.network c.requires.air_network c.requires.terminals c.requires.posted (ready k d within)

pub take_apart-crew-requires-clause-seats : goal.take_apart-crew-requires-clause-seats
take_apart-crew-requires-clause-seats g c = c.seat_all-workers.ensures.seats

pub take_apart-crew-requires-clause-jobs : goal.take_apart-crew-requires-clause-jobs
take_apart-crew-requires-clause-jobs g c =
    let table = c.args.line.now.table.shared.table_id in
    let start = c.args.line.now.table.shared.key.value in
    let round = c.args.round.now in
    let posted = c.args.crew.publisher in
    let air = c.args.crew.centre in
    let net = c.args.net.now in
    let workers = c.work_all.new.workers in
    let seated = c.seat_all-workers.result.items in
    let same = c.deref_mut.ensures.value in
    let long : length workers ≡ length seated = c.work_all.ensures.length ∙ ap length same in
    let back = written_back c.seat_all-workers.result.len workers seated long c.seat_all-workers.result.ok.0 in
    let ready = subst (AllAt (λ place worker. IsReady table start round posted air place worker.caller worker.job worker.text.items)) (sym same) c.seat_all-workers.ensures.ready in
    let over : AreOver (λ worker. worker.caller) (λ worker. worker.job) (λ worker. worker.ended) (λ worker. worker.text.items) net table start round posted air workers =
    are_over (λ worker. worker.caller) (λ worker. worker.job) (λ worker. worker.ended) (λ worker. worker.text.items) net table start round posted air c.deref_mut.result.now workers
    (ap length same ∙ sym c.seat_all-workers.result.ok.0 ∙ c.seat_all-workers.ensures.seats) ready c.work_all.ensures.length
    (λ i d within. (c.work_all.ensures.done i d within).same) (λ i d within. (c.work_all.ensures.done i d within).done) in
    subst (AllAt (λ place worker. IsOfPlace place worker.job)) (sym back)
    (placed (λ worker. worker.caller) (λ worker. worker.job) (λ worker. worker.ended) (λ worker. worker.text.items) net table start round posted air workers over)

pub meet_all-met-requires : goal.meet_all-met-requires
meet_all-met-requires g c =
    let table = c.args.line.now.table.shared.table_id in
    let start = c.args.line.now.table.shared.key.value in
    let round = c.args.round.now in
    let posted = c.args.crew.publisher in
    let air = c.args.crew.centre in
    let net = c.args.net.now in
    let workers = c.work_all.new.workers in
    let seated = c.seat_all-workers.result.items in
    let same = c.deref_mut.ensures.value in
    let long : length workers ≡ length seated = c.work_all.ensures.length ∙ ap length same in
    let back = written_back c.seat_all-workers.result.len workers seated long c.seat_all-workers.result.ok.0 in
    let ready = subst (AllAt (λ place worker. IsReady table start round posted air place worker.caller worker.job worker.text.items)) (sym same) c.seat_all-workers.ensures.ready in
    let over : AreOver (λ worker. worker.caller) (λ worker. worker.job) (λ worker. worker.ended) (λ worker. worker.text.items) net table start round posted air workers =
    are_over (λ worker. worker.caller) (λ worker. worker.job) (λ worker. worker.ended) (λ worker. worker.text.items) net table start round posted air c.deref_mut.result.now workers
    (ap length same ∙ sym c.seat_all-workers.result.ok.0 ∙ c.seat_all-workers.ensures.seats) ready c.work_all.ensures.length
    (λ i d within. (c.work_all.ensures.done i d within).same) (λ i d within. (c.work_all.ensures.done i d within).done) in
    let readers = c.take_apart-crew.result.readers.items in
    let last = c.take_apart-crew.result.publisher in
    let read : map (λ (reader : Posted). Some reader) readers ≡ map (λ worker. reader_in worker.job) (drop 2 workers) =
    c.take_apart-crew.ensures.readers ∙ ap (λ workers. map (λ worker. reader_in worker.job) (drop 2 workers)) back in
    let board = publisher_of (λ worker. worker.caller) (λ worker. worker.job) (λ worker. worker.ended) (λ worker. worker.text.items) net table start round posted last air workers over
    (λ d. sym (ap (λ workers. publisher_in (get_or workers 1 d).job) back) ∙ c.take_apart-crew.ensures.publisher d) in
    let same_board = readers_of (λ worker. worker.caller) (λ worker. worker.job) (λ worker. worker.ended) (λ worker. worker.text.items) net table start round posted air workers readers over read in
    let boards : All (λ (reader : Posted). reader.board ≡ last.board) readers = λ k d within. same_board k d within ∙ sym board in
    record { same = subst (All (λ (reader : Posted). reader.board ≡ last.board)) (sym c.deref_mut-2.ensures.value) boards }

-- the passes, the board and the events are those of the workers, put together again
pub returns : goal.returns
returns g c =
    let table = c.args.line.now.table.shared.table_id in
    let start = c.args.line.now.table.shared.key.value in
    let round = c.args.round.now in
    let posted = c.args.crew.publisher in
    let air = c.args.crew.centre in
    let net = c.args.net.now in
    let workers = c.work_all.new.workers in
    let seated = c.seat_all-workers.result.items in
    let same = c.deref_mut.ensures.value in
    let long : length workers ≡ length seated = c.work_all.ensures.length ∙ ap length same in
    let back = written_back c.seat_all-workers.result.len workers seated long c.seat_all-workers.result.ok.0 in
    let ready = subst (AllAt (λ place worker. IsReady table start round posted air place worker.caller worker.job worker.text.items)) (sym same) c.seat_all-workers.ensures.ready in
    let over : AreOver (λ worker. worker.caller) (λ worker. worker.job) (λ worker. worker.ended) (λ worker. worker.text.items) net table start round posted air workers =
    are_over (λ worker. worker.caller) (λ worker. worker.job) (λ worker. worker.ended) (λ worker. worker.text.items) net table start round posted air c.deref_mut.result.now workers
    (ap length same ∙ sym c.seat_all-workers.result.ok.0 ∙ c.seat_all-workers.ensures.seats) ready c.work_all.ensures.length
    (λ i d within. (c.work_all.ensures.done i d within).same) (λ i d within. (c.work_all.ensures.done i d within).done) in
    let passes = c.take_apart-crew.result.passes.items in
    let same_passes = c.take_apart-crew.ensures.passes ∙ ap (map (λ worker. worker.caller.place)) back in
    let pass_count = as_many (λ pass. pass.place) (λ worker. worker.caller.place) passes workers same_passes in
    let readers = c.take_apart-crew.result.readers.items in
    let last = c.take_apart-crew.result.publisher in
    let read : map (λ (reader : Posted). Some reader) readers ≡ map (λ worker. reader_in worker.job) (drop 2 workers) =
    c.take_apart-crew.ensures.readers ∙ ap (λ workers. map (λ worker. reader_in worker.job) (drop 2 workers)) back in
    let reader_count = count_readers (λ worker. worker.caller) (λ worker. worker.job) (λ worker. worker.ended) (λ worker. worker.text.items) workers readers over.seats read in
    let value = c.deref_mut-2.ensures.value in
    let met = c.meet_all-met.new.readers in
    let all_met : length met ≡ length readers = c.meet_all-met.ensures.length ∙ ap length value in
    let written = written_back c.take_apart-crew.result.readers.len met readers all_met c.take_apart-crew.result.readers.ok.0 in
    let publisher = c.meet_all-met.new.publisher in
    let IsMet : Posted → Type 0 = λ (reader : Posted). reader ≡ publisher in
    let kept : last ≡ publisher = sym c.meet_all-met.ensures.kept in
    let shown = c.deref.ensures.value ∙ back in
    let places = placed (λ worker. worker.caller) (λ worker. worker.job) (λ worker. worker.ended) (λ worker. worker.text.items) net table start round posted air workers over in
    record {
      seats = c.take_apart-crew.result.passes.ok.0 ∙ pass_count ∙ over.seats;
      passes = passes_are (λ worker. worker.caller) (λ worker. worker.job) (λ worker. worker.ended) (λ worker. worker.text.items) (λ pass. pass.place) net table start round posted air workers passes over
          same_passes;
      opening = still_opening (λ worker. worker.caller) (λ worker. worker.job) (λ worker. worker.ended) (λ worker. worker.text.items) net table start round posted air
          c.take_apart-crew.result.centre workers over
          (λ d. sym (ap (λ workers. air_in (get_or workers 0 d).job) back) ∙ c.take_apart-crew.ensures.centre d);
      desks = on_ok c.meet_all-met.result c.meet_all-met.ensures.ended (λ ok. ap length written ∙ all_met ∙ reader_count);
      met = on_ok c.meet_all-met.result c.meet_all-met.ensures.met (λ all. subst (All IsMet) (sym written) (λ k d within. all k d within ∙ sym c.meet_all-met.ensures.kept));
      done = on_both c.meet_all-met.result c.meet_all-met.ensures.ended c.meet_all-met.ensures.begins (λ ok begins.
          let well = where_ok c.add_texts-ended.result ok c.add_texts-ended.ensures.ended in
          let printed = where_ok c.add_texts-ended.result ok c.add_texts-ended.ensures.texts in
          let begin : All (λ (reader : Posted). IsPrefix reader.plans publisher.plans) readers =
          subst (All (λ (reader : Posted). IsPrefix reader.plans publisher.plans)) value (subst (λ (p : Posted). All (λ (reader : Posted). IsPrefix reader.plans p.plans) c.deref_mut-2.result.now) kept begins) in
          let boards = boards_are (λ worker. worker.caller) (λ worker. worker.job) (λ worker. worker.ended) (λ worker. worker.text.items) workers publisher readers over.seats places
          (λ d. sym (ap (λ workers. publisher_in (get_or workers 1 d).job) back) ∙ c.take_apart-crew.ensures.publisher d ∙ ap (λ (p : Posted). Some p) kept) read begin in
          record {
            texts = map (λ worker. worker.text.items) workers;
            done = λ log seen.
                all_done (λ worker. worker.caller) (λ worker. worker.job) (λ worker. worker.ended) (λ worker. worker.text.items) (λ pass. pass.place) net table start round posted publisher air
                c.take_apart-crew.result.centre workers passes log over same_passes (subst (All (λ worker. IsOk worker.ended)) shown well)
                (λ d. sym (ap (λ workers. air_in (get_or workers 0 d).job) back) ∙ c.take_apart-crew.ensures.centre d) boards seen;
            printed = printed ∙ ap (λ (texts : List _). c.args.text.now.items ++ (flat_map (λ (desk : Desk). text_at (desk.0 + 1) texts) round.desks ++ text_at 1 texts ++ text_at 0 texts))
                (ap (map (λ worker. worker.text.items)) shown);
          });
    }
