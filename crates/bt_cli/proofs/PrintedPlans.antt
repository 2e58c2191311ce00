-- What `plan` prints is in the range of what a text can spell: the plan is good, and its demand fits the frame, so that
-- it can be flown, and each number in it is small.
use Rattle.std.proofs.Common.{ℕ, ◌≤◌, [], ◌∷◌, codes, List, length, refl, subst, arith}
use Rattle.std.proofs.lemmas.List.Sums.{get_or-le-sum_by}
use Rattle.bt_frame.specs.declared.mode.Mode.{Mode}
use Rattle.bt_frame.specs.declared.schedule.Critical.{Critical}
use Rattle.bt_frame.specs.Critical.{IsOfBeams}
use Rattle.bt_net.specs.Network.{Net, IsSound}
use Rattle.bt_matrix.specs.Traffic.{IsLine}
use Rattle.bt_demand.specs.declared.demand.Link.{Link}
use Rattle.bt_demand.specs.declared.plan.Plan.{Plan}
use Rattle.bt_demand.specs.Demand.{IsDemand}
use Rattle.bt_demand.specs.Flyable.{IsFlyable}
use Rattle.bt_demand.specs.Plan.{IsGoodPlan}
use Rattle.bt_demand.specs.Traffic.{matrix_of, AreOfNetwork}
use Rattle.bt_demand.proofs.BurstTriples.{held_within}
use Rattle.bt_demand.proofs.Matrices.{length-matrix_of}
use Rattle.bt_demand.specs.declared.verdict.Verdict.TheVariants.{Good}
use Rattle.bt_plan.specs.PlanSpelling.{IsPlanInRange}
use Rattle.bt_plan.specs.ScheduleSpelling.{IsInRange}
use Rattle.bt_words.specs.Lines.{line_of}
use Rattle.bt_cli.specs.CheckPlan.{JudgesPlan}
use Rattle.bt_cli.specs.Fitting.{Fits}
use Rattle.bt_report.specs.Outcome.{Outcome, text_alone}
use Rattle.bt_cli.specs.Plans.{PrintsPlan}

-- good plans of few slots can be flown
abbrev pub FlyWhereShort : Type 0
FlyWhereShort = (net : Net) (links : List Link) (plan : Plan) → AreOfNetwork net links → IsGoodPlan net links plan
    → plan.schedule.length ≤ 4096 → IsFlyable net plan

-- a line of the demand's matrix is one of the network's beams
line_of_net : (net : Net) (links : List Link) (line : Critical) → IsLine (matrix_of net links) line → IsOfBeams (length net.beams) line
line_of_net net links line within = subst (λ (size : ℕ). IsOfBeams size line) (length-matrix_of net links) within

-- a plan for a demand that fits is no longer than a frame can be
short : (net : Net) (links : List Link) (plan : Plan) → IsSound net → Fits net links → IsGoodPlan net links plan → plan.schedule.length ≤ 4096
short net links plan sound fits good =
    omega (arith, fits plan.schedule.critical good.least.on_matrix, good.least.reached, sound.slots.1)

-- so its schedule is one that a text can spell
schedule-in_range : (net : Net) (links : List Link) (plan : Plan) → IsSound net → IsGoodPlan net links plan → plan.schedule.length ≤ 4096
    → IsInRange (length net.beams) plan.schedule
schedule-in_range net links plan sound good few = record {
  slots = omega (arith, few);
  critical = line_of_net net links plan.schedule.critical good.least.on_matrix;
  modes = λ k d within. record {
    duration = omega (arith, get_or-le-sum_by (λ (mode : Mode). mode.duration) plan.schedule.modes k d within, good.carries.filled, few);
    beams = (good.carries.permutations k d within).count;
    columns = λ down e below. omega (arith, (good.carries.permutations k d within).in_range down e below, sound.beams.count.1);
  };
}

-- and so are its bursts
pub plan-in_range : FlyWhereShort → (net : Net) (links : List Link) (outcome : Outcome) → IsSound net → AreOfNetwork net links → Fits net links
    → (printed : PrintsPlan net links outcome) → IsPlanInRange net printed.plan
plan-in_range fly net links outcome sound of_network fits printed =
    let plan = printed.plan in
    let few = short net links plan sound fits printed.good in
    let flies = fly net links plan of_network printed.good few in
    record {
      edition = omega (arith, printed.edition);
      schedule = schedule-in_range net links plan sound printed.good few;
      bursts = λ k d within.
          let held = flies.held k d within in
          let over = held_within net plan.schedule.modes _ held in
          record {
            start = omega (arith, over, held.some, flies.filled, few);
            some = omega (arith, held.some);
            few = omega (arith, over, flies.filled, few);
            sends = (flies.between k d within).0;
            receives = (flies.between k d within).1;
          };
      ordered = printed.ordered;
    }

-- the line of a good verdict on a plan
pub good_plan_line : (net : Net) (links : List Link) (plan : Plan) → IsDemand links → IsGoodPlan net links plan
    → JudgesPlan net links plan (text_alone (line_of (codes "good" ∷ [])) 0)
good_plan_line net links plan demand good = record { demand = demand; verdict = Good; is = good; says = refl }
