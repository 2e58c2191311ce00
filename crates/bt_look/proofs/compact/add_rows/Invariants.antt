use Rattle.std.proofs.Common.{◌≡◌, ◌++◌, take}
use Rattle.bt_demand.specs.Rows.{all_links}
use Rattle.bt_demand.proofs.FlatPlaces.{flat_place}
use Rattle.bt_journal.specs.JournalLines.{journal_lines}
use Rattle.bt_look.specs.Compact.{adds_of}
use Rattle.bt_look.proofs.compact.add_rows.Given as goal

-- the adds of the links of the rows so far
abbrev pub invariant-loop-row : goal.invariant-loop-row
invariant-loop-row l = record {
  made : l.edition ≡ flat_place l.rows l.row-index 0;
  so_far : l.text.items ≡ l.fn.text.items ++ journal_lines l.net (adds_of (take (flat_place l.rows l.row-index 0) (all_links l.rows)));
}

-- and of those of this row so far
abbrev pub invariant-loop-link : goal.invariant-loop-link
invariant-loop-link l = record {
  made : l.edition ≡ flat_place l.rows l.row-index l.link-index;
  so_far : l.text.items ≡ l.fn.text.items ++ journal_lines l.net (adds_of (take (flat_place l.rows l.row-index l.link-index) (all_links l.rows)));
}
