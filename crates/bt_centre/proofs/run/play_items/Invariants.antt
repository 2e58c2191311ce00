use Rattle.std.proofs.Common.{◌≤◌, take}
use Rattle.bt_centre.specs.Progress.{IsTogether, ItemsWritten}
use Rattle.bt_centre.proofs.run.play_items.Given as goal

-- the parts so far were played and written
abbrev pub invariant-loop-item : goal.invariant-loop-item
invariant-loop-item g l = record {
  later : g.O.Sink.fault_count l.fn.out ≤ g.O.Sink.fault_count l.out;
  together : IsTogether l.playing.air;
  few : l.playing.rounds ≤ l.item-index;
  written : ItemsWritten l.net l.fn.playing.book (take l.item-index l.items) l.playing (g.O.Sink.told l.fn.out) (g.O.Sink.told l.out);
}
