-- For bodies alone: the entries that a session's book handed over, and how they are counted.
use Rattle.std.specs.Prelude.{◌≡◌, ℕ, Bool, List, ◌++◌, length, map, IfOk}
use Rattle.std.specs.List.{flat_map, list_any}
use Rattle.bt_journal.specs.declared.entry.Entry.{Entry}
use Rattle.bt_journal.specs.Journal.{failed_of, refused_of}
use Rattle.bt_history.specs.Store.{is_lost}
use Rattle.bt_timeline.specs.declared.marks.Totals.{Totals}
use Rattle.bt_centre.specs.declared.history.History.{History}
use Rattle.bt_centre.specs.declared.tally.Tally.{Tally}
use Rattle.bt_centre.specs.Lines.{done_of}

-- entries that were handed over, one list after the other
abbrev pub joined : List (List Entry × Unit {0}) → List Entry
joined calls = flat_map (λ (one : List Entry × Unit {0}). one.0) calls

-- the history of a time that is over
abbrev pub history_of : ℕ × List (List Entry × Unit {0}) → History
history_of time = record { before = time.0; entries = joined time.1 }

-- those of all times that are over
abbrev pub histories_of : List (ℕ × List (List Entry × Unit {0})) → List History
histories_of times = map history_of times

-- the histories of the times that are over, and the entries of the present one that were handed over
pub record Logged : Type 0 where
  pub times : List History
  pub front : List Entry

-- a history, with these entries in front of its own
abbrev pub with_front : List Entry → History → History
with_front front history = record { before = history.before; entries = front ++ history.entries }

-- the store failed over a change in one of these entries
abbrev pub any_lost : List Entry → Bool
any_lost entries = list_any (λ (entry : Entry). is_lost entry.reply) entries

-- the edits among these entries were answered so
pub record IsCounted (entries : List Entry) (totals : Totals) : Type 0 where
  pub done : totals.done ≡ length (done_of entries)
  pub refused : totals.refused ≡ length (refused_of entries)
  pub failed : totals.failed ≡ length (failed_of entries)

-- the tally is that of these entries
pub record IsTally (entries : List Entry) (tally : Tally) : Type 0 where
  pub totals : IfOk tally.totals (λ totals. IsCounted entries totals)
  pub lost : tally.lost ≡ any_lost entries
