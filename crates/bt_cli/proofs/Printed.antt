-- What `modes` prints is in the range of what a text can spell: the lines of a matrix that a text spells are short,
-- and with them the length and the durations.
use Rattle.std.proofs.Common.{◌≡◌, ℕ, ◌≤◌, List, [], ◌∷◌, length, Ok, codes, refl, arith}
use Rattle.std.proofs.lemmas.List.Sums.{get_or-le-sum_by}
use Rattle.bt_frame.specs.declared.mode.Mode.{Mode}
use Rattle.bt_frame.specs.declared.schedule.Schedule.{Schedule}
use Rattle.bt_matrix.specs.Traffic.{IsTraffic}
use Rattle.bt_matrix.specs.Good.{IsGood}
use Rattle.bt_demand.specs.declared.verdict.Verdict.TheVariants.{Good}
use Rattle.bt_plan.specs.MatrixText.{matrix_reading}
use Rattle.bt_plan.specs.ScheduleSpelling.{IsInRange}
use Rattle.bt_plan.proofs.Spelled.{matrix_reading-IsTraffic, matrix_reading-line_small}
use Rattle.bt_words.specs.Lines.{line_of}
use Rattle.bt_cli.specs.Check.{Judges}
use Rattle.bt_report.specs.Outcome.{text_alone}

-- a good schedule of few slots is one that a text can spell
good-in_range : (rows : List (List ℕ)) (schedule : Schedule) → IsTraffic rows → schedule.length ≤ 131072 → IsGood rows schedule → IsInRange (length rows) schedule
good-in_range rows schedule is few good = record {
  slots = few;
  critical = good.least.on_matrix;
  modes = λ k d within. record {
    duration = omega (arith, get_or-le-sum_by (λ (mode : Mode). mode.duration) schedule.modes k d within, good.filled, few);
    beams = (good.permutations k d within).count;
    columns = λ down e below. omega (arith, (good.permutations k d within).in_range down e below, is.few_beams);
  };
}

-- and so is a good one for a matrix that a text spells
pub printed-in_range : (text : List ℕ) (rows : List (List ℕ)) (schedule : Schedule) → matrix_reading text ≡ Ok rows → IsGood rows schedule → IsInRange (length rows) schedule
printed-in_range text rows schedule spelled good =
    let is = matrix_reading-IsTraffic text rows spelled in
    let small = matrix_reading-line_small text rows schedule.critical spelled good.least.on_matrix in
    good-in_range rows schedule is (omega (arith, small, good.least.reached)) good

-- the line of a good verdict
pub good_line : (rows : List (List ℕ)) (schedule : Schedule) → IsGood rows schedule → Judges rows schedule (text_alone (line_of (codes "good" ∷ [])) 0)
good_line rows schedule good = (Good, good, refl)
