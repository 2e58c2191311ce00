-- How a switching schedule is spelled: its lines, each as its words, and a newline behind each of them.
use Rattle.std.specs.Prelude.{◌≡◌, ℕ, ◌≤◌, codes, decimal, length, map, List, [], ◌∷◌, ◌++◌, All}
use Rattle.bt_frame.specs.declared.limits.TheConstants.{MOST_TEXT_SLOTS}
use Rattle.bt_text.specs.Text.{spaced, ended}
use Rattle.bt_frame.specs.declared.mode.Mode.{Mode}
use Rattle.bt_frame.specs.declared.schedule.Critical.{Critical}
use Rattle.bt_frame.specs.declared.schedule.Critical.TheVariants.{Row, Column}
use Rattle.bt_frame.specs.declared.schedule.Schedule.{Schedule}
use Rattle.bt_frame.specs.Critical.{IsOfBeams}

-- `length L`
abbrev pub length_line : ℕ → List ℕ
length_line slots = spaced (codes "length" ∷ decimal slots ∷ [])

-- `critical row B` or `critical column B`
abbrev pub critical_line : Critical → List ℕ
critical_line (Row up) = spaced (codes "critical" ∷ codes "row" ∷ decimal up.0 ∷ [])
critical_line (Column down) = spaced (codes "critical" ∷ codes "column" ∷ decimal down.0 ∷ [])

-- `mode D P0 P1 ..`
abbrev pub mode_line : Mode → List ℕ
mode_line mode = spaced (codes "mode" ∷ map decimal (mode.duration ∷ mode.perm))

-- the length, the critical line, the modes in order, and `end`
abbrev pub schedule_lines : Schedule → List (List ℕ)
schedule_lines schedule = length_line schedule.length ∷ critical_line schedule.critical ∷ (map mode_line schedule.modes ++ codes "end" ∷ [])

-- the text of the schedule
abbrev pub schedule_spelling : Schedule → List ℕ
schedule_spelling schedule = ended (schedule_lines schedule)

-- a mode that a text can spell for so many beams
pub record IsModeInRange (size : ℕ) (mode : Mode) : Type 0 where
  pub duration : mode.duration ≤ MOST_TEXT_SLOTS
  pub beams : length mode.perm ≡ size
  pub columns : All (λ down. down ≤ 255) mode.perm

-- a schedule that a text can spell for so many beams
pub record IsInRange (size : ℕ) (schedule : Schedule) : Type 0 where
  pub slots : schedule.length ≤ MOST_TEXT_SLOTS
  pub critical : IsOfBeams size schedule.critical
  pub modes : All (IsModeInRange size) schedule.modes
