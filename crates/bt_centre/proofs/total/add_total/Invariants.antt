use Rattle.std.proofs.Common.{◌≡◌, length, take}
use Rattle.bt_journal.specs.Journal.{failed_of, refused_of}
use Rattle.bt_centre.specs.Lines.{done_of}
use Rattle.bt_centre.specs.Run.{entries_of}
use Rattle.bt_centre.proofs.total.add_total.Given as goal

-- the histories so far were counted, and nothing was written
abbrev pub invariant-loop-history : goal.invariant-loop-history
invariant-loop-history l = record {
  done : l.totals.done ≡ length (done_of (entries_of (take l.history-index l.histories)));
  refused : l.totals.refused ≡ length (refused_of (entries_of (take l.history-index l.histories)));
  failed : l.totals.failed ≡ length (failed_of (entries_of (take l.history-index l.histories)));
}
