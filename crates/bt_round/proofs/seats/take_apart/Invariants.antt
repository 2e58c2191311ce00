use Rattle.std.proofs.Common.{◌≡◌, ◌+◌, ◌<◌, ◌≤◌, ◌++◌, Some, drop, length, map, vec_capacity}
use Rattle.std.specs.Vec.Iter.{into_iter_items, into_iter_len}
use Rattle.bt_round.specs.declared.seats.TheConstants.{DESKS, SEATS}
use Rattle.bt_round.specs.Seats.{reader_in}
use Rattle.bt_round.proofs.seats.take_apart.Given as goal

-- the passes so far are those of the first workers, in order, and the readers those of the desks among them
abbrev pub invariant-loop-worker : goal.invariant-loop-worker
invariant-loop-worker g l = record {
  some : 1 < length l.passes.items;
  left : into_iter_items l.others ≡ drop (length l.passes.items) l.fn.workers.items;
  counted : length l.passes.items + into_iter_len l.others ≡ SEATS;
  desks : length l.readers.items + into_iter_len l.others ≡ DESKS;
  moved : map (λ pass. pass.place) l.passes.items ++ map (λ worker. worker.caller.place) (into_iter_items l.others) ≡ map (λ worker. worker.caller.place) l.fn.workers.items;
  read : map (λ reader. Some reader) l.readers.items ++ map (λ worker. reader_in worker.job) (into_iter_items l.others)
      ≡ map (λ worker. reader_in worker.job) (drop 2 l.fn.workers.items);
  room : SEATS ≤ vec_capacity l.passes;
  readers_room : DESKS ≤ vec_capacity l.readers;
}

-- fewer workers are left
abbrev pub decreases-loop-worker : goal.decreases-loop-worker
decreases-loop-worker g l = into_iter_len l.others
