use Rattle.std.proofs.Common.{◌≡◌, ◌≤◌, length, take}
use Rattle.bt_journal.specs.Journal.{failed_of, refused_of}
use Rattle.bt_centre.specs.Lines.{done_of}
use Rattle.bt_centre.proofs.total.totals_of.Given as goal

-- the entries so far were counted
abbrev pub invariant-loop-entry : goal.invariant-loop-entry
invariant-loop-entry l = record {
  done : l.done ≡ length (done_of (take l.entry-index l.entries));
  refused : l.refused ≡ length (refused_of (take l.entry-index l.entries));
  failed : l.failed ≡ length (failed_of (take l.entry-index l.entries));
  few_done : l.done ≤ l.entry-index;
  few_refused : l.refused ≤ l.entry-index;
  few_failed : l.failed ≤ l.entry-index;
}
