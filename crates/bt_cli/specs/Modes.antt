-- `modes MATRIX`: the matrix is loaded, and a schedule that is good for it and has few modes is printed.
use Rattle.std.specs.Prelude.{◌≡◌, ℕ, List}
use Rattle.bt_frame.specs.declared.schedule.Schedule.{Schedule}
use Rattle.bt_matrix.specs.Traffic.{IsHeaviest}
use Rattle.bt_matrix.specs.Good.{IsGood}
use Rattle.bt_modes.specs.Few.{HasFewModes}
use Rattle.bt_plan.specs.ScheduleSpelling.{schedule_spelling}
use Rattle.bt_report.specs.declared.status.TheConstants.{DONE}
use Rattle.bt_report.specs.Outcome.{Outcome, text_alone}

-- the text of a schedule that is good for the matrix and has few modes, with the first of its heaviest lines, and nothing else
abbrev pub PrintsSchedule : List (List ℕ) → Outcome → Type 0
PrintsSchedule rows outcome = (schedule : Schedule) × IsGood rows schedule × IsHeaviest rows schedule.critical schedule.length × HasFewModes rows schedule × (outcome ≡ text_alone (schedule_spelling schedule) DONE)
