-- For bodies alone: the changes in a log of notes.
use Rattle.std.specs.Prelude.{if◌then◌else◌, Bool, List, Option, Some, None}
use Rattle.std.specs.List.{filter_map}
use Rattle.bt_journal.specs.declared.call.Change.{Change}

-- the change that a note is of, where it counts
abbrev pub change_noted : Change × Bool → Option Change
change_noted note = if note.1 then Some note.0 else None

-- the changes among these notes, in order
abbrev pub changes_noted : List (Change × Bool) → List Change
changes_noted notes = filter_map change_noted notes
