-- The lines with which a time of a run begins, and the last line of a run.
use Rattle.std.specs.Prelude.{ℕ, ◌&&◌, ◌++◌, List, length, filter, Option, Some, None}
use Rattle.bt_frame.specs.declared.numbers.EditionNo.{EditionNo}
use Rattle.bt_frame.specs.declared.numbers.Mark.{Mark}
use Rattle.bt_journal.specs.declared.call.Change.{Change}
use Rattle.bt_journal.specs.declared.entry.Entry.{Entry}
use Rattle.bt_journal.specs.Journal.{asks_edit, is_made, refused_of, failed_of}
use Rattle.bt_history.specs.Changes.{edition, newest}
use Rattle.bt_timeline.specs.Air.{back_line}
use Rattle.bt_timeline.specs.Timeline.{start_line, total_line}

-- the lines with which a time begins that has these changes, in this superframe: its start, and the edition to which the centre goes
-- back, if it does
abbrev pub begin_lines : List Change → Mark → Option EditionNo → List ℕ
begin_lines changes mark None = start_line (edition changes) (newest changes).edition.0 mark.0
begin_lines changes mark (Some back) = start_line (edition changes) (newest changes).edition.0 mark.0 ++ back_line back

-- the entries of edits that were done, in order
abbrev pub done_of : List Entry → List Entry
done_of entries = filter (λ entry. asks_edit entry.call && is_made entry.reply) entries

-- the last line of a run with these entries: how many edits were done, how many were refused, and how many the store failed
abbrev pub total_of : List Entry → List ℕ
total_of entries = total_line (length (done_of entries)) (length (refused_of entries)) (length (failed_of entries))
