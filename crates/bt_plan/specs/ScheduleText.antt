-- The text of a switching schedule for so many beams: its length, its critical line, its modes, and `end`.
use Rattle.std.specs.Prelude.{ℕ, ◌+◌, ◌==◌, ◌&&◌, if◌then◌else◌, nat_le, nat_lt, codes, length, List, [], ◌∷◌, Option, Some, None, Ok, Err, option_and_then}
use Rattle.std.specs.List.{list_all}
use Rattle.bt_frame.specs.declared.limits.TheConstants.{MOST_TEXT_SLOTS}
use Rattle.bt_text.specs.Text.{words, lines, is_word, number_of, numbers_of}
use Rattle.bt_text.specs.WordReader.{number_to}
use Rattle.bt_frame.specs.declared.mode.Mode.{Mode}
use Rattle.bt_frame.specs.declared.schedule.Critical.{Critical}
use Rattle.bt_frame.specs.declared.schedule.Critical.TheVariants.{Row, Column}
use Rattle.bt_frame.specs.declared.schedule.Schedule.{Schedule}
use Rattle.bt_plan.specs.declared.text_fault.TextCode.TheVariants.{M1}
use Rattle.bt_text.specs.Reading.{◌>>=◌, or_fault}
use Rattle.bt_plan.specs.Reading.{Reading}

-- `length L`
abbrev pub length_in : List (List ℕ) → Option ℕ
length_in (name ∷ slots ∷ []) = if is_word (codes "length") name then number_to MOST_TEXT_SLOTS slots else None
length_in _ = None

-- `row` or `column`, and a beam below the size
abbrev pub line_in : ℕ → List ℕ → ℕ → Option Critical
line_in size kind beam = if nat_lt beam size then (if is_word (codes "row") kind then Some (Row (record { 0 = beam })) else (if is_word (codes "column") kind then Some (Column (record { 0 = beam })) else None)) else None

-- `critical row B` or `critical column B`
abbrev pub critical_in : ℕ → List (List ℕ) → Option Critical
critical_in size (name ∷ kind ∷ beam ∷ []) = if is_word (codes "critical") name then option_and_then (line_in size kind) (number_of beam) else None
critical_in size _ = None

-- a duration and a downlink for each uplink beam
abbrev pub mode_with : ℕ → List ℕ → Option Mode
mode_with size (duration ∷ perm) = if nat_le duration MOST_TEXT_SLOTS && (length perm == size && list_all (λ down. nat_le down 255) perm) then Some (record { duration = duration; perm = perm }) else None
mode_with size [] = None

-- `mode D P0 P1 ..`
abbrev pub mode_in : ℕ → List (List ℕ) → Option Mode
mode_in size (name ∷ numbers) = if is_word (codes "mode") name then option_and_then (mode_with size) (numbers_of numbers) else None
mode_in size [] = None

-- nothing behind the last newline
abbrev pub end_in : ℕ → List (List ℕ) → Reading (List Mode)
end_in at ([] ∷ []) = Ok []
end_in at _ = Err (M1, at)

-- modes, the first of them in line `at`, then `end`, and nothing behind its newline
abbrev pub modes_in : ℕ → ℕ → List (List ℕ) → Reading (List Mode)
modes_in size at (line ∷ next ∷ rest) = if is_word (codes "end") line then end_in (at + 1) (next ∷ rest) else (or_fault (M1, at) (mode_in size (words line)) >>= λ mode. modes_in size (at + 1) (next ∷ rest) >>= λ modes. Ok (mode ∷ modes))
modes_in size at _ = Err (M1, at)

-- the critical line in line 2, and what follows it
abbrev pub critical_and_modes : ℕ → ℕ → List (List ℕ) → Reading Schedule
critical_and_modes size slots (line ∷ next ∷ rest) = or_fault (M1, 2) (critical_in size (words line)) >>= λ critical. modes_in size 3 (next ∷ rest) >>= λ modes. Ok (record { length = slots; critical = critical; modes = modes })
critical_and_modes size slots _ = Err (M1, 2)

-- the schedule that these lines spell, the last of which has no newline behind it
abbrev pub schedule_in : ℕ → List (List ℕ) → Reading Schedule
schedule_in size (line ∷ next ∷ rest) = or_fault (M1, 1) (length_in (words line)) >>= λ slots. critical_and_modes size slots (next ∷ rest)
schedule_in size _ = Err (M1, 1)

-- the schedule that a text spells for so many beams
abbrev pub schedule_of : ℕ → List ℕ → Reading Schedule
schedule_of size text = schedule_in size (lines text)
