-- `check MATRIX MODES`: the matrix is loaded, then the schedule, and the verdict is printed.
use Rattle.std.specs.Prelude.{ℕ, List, length, None}
use Rattle.bt_frame.specs.declared.schedule.Schedule.{Schedule}
use Rattle.bt_demand.specs.declared.verdict.Verdict.{Verdict}
use Rattle.bt_demand.specs.declared.verdict.Verdict.TheVariants.{Good}
use Rattle.bt_demand.specs.Verdict.{IsVerdict}
use Rattle.bt_timeline.specs.Verdicts.{verdict_words}
use Rattle.bt_report.specs.declared.status.TheConstants.{DONE, NOT_GOOD}
use Rattle.bt_load.specs.Kinds.{matrix_file, schedule_file}
use Rattle.bt_report.specs.Outcome.{Outcome, Says}
use Rattle.bt_load.specs.Loaders.{Loader, and_then, file}

-- done where the verdict is good, and else the status of one that is not
abbrev pub verdict_status : Verdict → ℕ
verdict_status Good = DONE
verdict_status _ = NOT_GOOD

-- the line of the verdict on the schedule
abbrev pub Judges : List (List ℕ) → Schedule → Outcome → Type 0
Judges rows schedule outcome = (verdict : Verdict) × IsVerdict rows schedule verdict × Says (verdict_words None verdict) (verdict_status verdict) outcome

-- the matrix is loaded, and then the schedule, for as many beams as the matrix has
abbrev pub schedule_files : List ℕ → List ℕ → Loader (List (List ℕ) × Schedule)
schedule_files matrix modes = and_then (file matrix_file matrix) (λ rows. file (schedule_file (length rows)) modes)
