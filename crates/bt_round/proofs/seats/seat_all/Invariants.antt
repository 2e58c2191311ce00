use Rattle.std.proofs.Common.{◌≡◌, ◌+◌, ◌<◌, ◌≤◌, All, drop, length, vec_capacity}
use Rattle.std.specs.Vec.Iter.{into_iter_items, into_iter_len}
use Rattle.bt_round.specs.declared.seats.TheConstants.{SEATS}
use Rattle.bt_round.specs.Seats.{AllAt, IsReady}
use Rattle.bt_round.proofs.seats.seat_all.Given as goal

-- the passes so far have their workers
abbrev pub invariant-loop-pass : goal.invariant-loop-pass
invariant-loop-pass g l = record {
  some : 1 < length l.workers.items;
  left : into_iter_items l.others ≡ drop (length l.workers.items) l.fn.crew.passes.items;
  counted : into_iter_len l.others + length l.workers.items ≡ SEATS;
  readers : length (into_iter_items l.readers) + length l.workers.items ≡ SEATS;
  met : All (λ reader. reader ≡ l.fn.crew.publisher) (into_iter_items l.readers);
  room : SEATS ≤ vec_capacity l.workers;
  ready : AllAt (λ place worker. IsReady l.line.table.shared.table_id l.line.table.shared.key.value l.round l.fn.crew.publisher l.fn.crew.centre place worker.caller worker.job worker.text.items) l.workers.items;
}

-- fewer passes are left
abbrev pub decreases-loop-pass : goal.decreases-loop-pass
decreases-loop-pass g l = into_iter_len l.others
