-- How many modes a schedule has.
use Rattle.std.specs.Prelude.{ℕ, ◌+◌, ◌*◌, ◌≤◌, List, length}
use Rattle.bt_frame.specs.declared.schedule.Schedule.{Schedule}
use Rattle.bt_matrix.specs.Walk.{positive_entries}

-- no more modes than the matrix has positive entries, and lines
abbrev pub HasFewModes : List (List ℕ) → Schedule → Type 0
HasFewModes rows schedule = length schedule.modes ≤ positive_entries rows + 2 * length rows
