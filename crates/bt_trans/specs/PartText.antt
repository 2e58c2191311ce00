-- How a schedule for fewer transponders than beams is spelled: its lines, each as its words, and a newline behind each.
use Rattle.std.specs.Prelude.{ℕ, ◌==◌, if◌then◌else◌, codes, decimal, map, List, [], ◌∷◌, ◌++◌}
use Rattle.bt_text.specs.Text.{spaced, ended}
use Rattle.bt_frame.specs.declared.schedule.Critical.TheVariants.{Row, Column}
use Rattle.bt_trans.specs.declared.part.TheConstants.{SILENT}
use Rattle.bt_trans.specs.declared.part.Bound.{Bound}
use Rattle.bt_trans.specs.declared.part.Bound.TheVariants.{Line, Total}
use Rattle.bt_trans.specs.declared.part.PartMode.{PartMode}
use Rattle.bt_trans.specs.declared.part.PartSchedule.{PartSchedule}
use Rattle.bt_trans.specs.Part.{total_slots}

-- `length L`
abbrev pub length_line : ℕ → List ℕ
length_line slots = spaced (codes "length" ∷ decimal slots ∷ [])

-- `bound row B`, `bound column B` or `bound total S`, S being all entries of the matrix together
abbrev pub bound_line : List (List ℕ) → Bound → List ℕ
bound_line rows (Line (Row up)) = spaced (codes "bound" ∷ codes "row" ∷ decimal up.0 ∷ [])
bound_line rows (Line (Column down)) = spaced (codes "bound" ∷ codes "column" ∷ decimal down.0 ∷ [])
bound_line rows Total = spaced (codes "bound" ∷ codes "total" ∷ decimal (total_slots rows) ∷ [])

-- the downlink beam of an uplink beam, or `-` where that is silent
abbrev pub downlink_word : ℕ → List ℕ
downlink_word down = if down == SILENT then codes "-" else decimal down

-- `mode D P0 P1 ..`
abbrev pub part_mode_line : PartMode → List ℕ
part_mode_line mode = spaced (codes "mode" ∷ decimal mode.duration ∷ map downlink_word mode.perm)

-- the length, the bound, the modes in order, and `end`
abbrev pub part_lines : List (List ℕ) → PartSchedule → List (List ℕ)
part_lines rows schedule = length_line schedule.length ∷ bound_line rows schedule.bound ∷ (map part_mode_line schedule.modes ++ codes "end" ∷ [])

-- the text of the schedule
abbrev pub part_spelling : List (List ℕ) → PartSchedule → List ℕ
part_spelling rows schedule = ended (part_lines rows schedule)
