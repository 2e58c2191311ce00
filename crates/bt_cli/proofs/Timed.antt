-- The bursts of a good plan that fits a frame can be sent, and loads for their times.
use Rattle.std.proofs.Common.{◌≡◌, ℕ, ◌≤◌, inr, List, length, get_or, All, Option, None, Result, Err, arith}
use Rattle.bt_outside.specs.Told.{Rose}
use Rattle.bt_net.specs.Network.{Net}
use Rattle.bt_demand.specs.declared.demand.Link.{Link}
use Rattle.bt_demand.specs.declared.plan.Plan.{Plan}
use Rattle.bt_demand.specs.Apart.{AreBetweenTerminals}
use Rattle.bt_demand.specs.Plan.{IsGoodPlan}
use Rattle.bt_demand.proofs.BurstTriples.{held_within}
use Rattle.bt_timing.specs.SendsText.{IsTimed}
use Rattle.bt_timing.specs.Times.{Times}
use Rattle.bt_report.specs.declared.report.Report.{Report}
use Rattle.bt_report.specs.declared.report.Stop.{Stop}
use Rattle.bt_report.specs.declared.report.Stop.TheVariants.{Early, OutOfMemory}
use Rattle.bt_demand.specs.declared.verdict.Verdict.{Verdict}
use Rattle.bt_demand.specs.declared.verdict.Verdict.TheVariants.{Good}
use Rattle.bt_demand.specs.PlanVerdict.{IsPlanVerdict}
use Rattle.bt_demand.specs.Demand.{IsDemand}
use Rattle.bt_cli.specs.Fitting.{Fits}
use Rattle.bt_load.specs.Files.{IsLoaded}
use Rattle.bt_load.specs.Kinds.{delay_file, plan_file}
use Rattle.bt_load.specs.Loaders.{Loads, file}
use Rattle.bt_report.specs.Outcome.{Outcome, text_alone}
use Rattle.bt_report.specs.Printing.{CameTo}
use Rattle.bt_report.specs.Report.{StopIs}
use Rattle.bt_cli.specs.Timing.{NamesVerdict, TellsTimes, delays_of_good, timed_plan}
use Rattle.bt_load.proofs.Loads.{StopsSooner, came_then, file_sooner, then_sooner, where_sooner}
use Rattle.bt_load.proofs.OneLoad.{IsLawful, file_lawful, then_lawful, where_lawful}

-- a plan has at most one verdict for a demand
abbrev pub OnePlanVerdict : Type 0
OnePlanVerdict = (net : Net) (links : List Link) (plan : Plan) (a b : Verdict) → IsDemand links → IsPlanVerdict net links plan a → IsPlanVerdict net links plan b → a ≡ b

-- each burst lies in the frame, and its terminal has a delay
pub all_timed : (net : Net) (links : List Link) (plan : Plan) (times : Times) → AreBetweenTerminals net plan.bursts → IsGoodPlan net links plan → Fits net links → net.slots ≤ 4096
    → length times.delays ≡ length net.terminals → All (IsTimed net times) plan.bursts
all_timed net links plan times between good fits few delays k d within =
    let burst = get_or plan.bursts k d in
    let ends = between k d within in
    let held = good.carries.held k d within in
    let over = held_within net plan.schedule.modes burst held in
    let most = fits plan.schedule.critical good.least.on_matrix in
    let short : plan.schedule.length ≤ 4096 = omega (arith, most, good.least.reached, few) in
    record {
      sends = ends.0;
      receives = ends.1;
      delay = omega (arith, ends.0, delays);
      lies = record {
        start = omega (arith, over, good.carries.filled, short, held.some);
        slots = (omega (arith, held.some), omega (arith, over, good.carries.filled, short));
      };
    }

-- ---- loads

delays_sooner : (net : Net) (links : List Link) (plan : Plan) (delays : List ℕ) → StopsSooner (delays_of_good net links plan delays)
delays_sooner net links plan delays = where_sooner (IsGoodPlan net links plan) (file (delay_file net) delays) (file_sooner (delay_file net) delays)

pub timed_sooner : (net : Net) (links : List Link) (plan delays : List ℕ) → StopsSooner (timed_plan net links plan delays)
timed_sooner net links plan delays =
    then_sooner (file (plan_file net) plan) (λ read. delays_of_good net links read delays) (file_sooner (plan_file net) plan) (λ read. delays_sooner net links read delays)

-- the plan is loaded, and what comes after that came to one of its outcomes
pub came_to_plan : (told now : List ℕ → Option (List ℕ)) (before between end : ℕ) (plan delays : List ℕ) (net : Net) (links : List Link) (read : Plan) → now ≡ told → before ≤ between → IsLoaded (plan_file net) told plan read
    → (result : Result Report Stop) → CameTo (Loads (delays_of_good net links read delays) (TellsTimes net links read) now (Rose between end)) result
    → CameTo (Loads (timed_plan net links plan delays) (λ both. TellsTimes net links both.0 both.1) told (Rose before end)) result
came_to_plan told now before between end plan delays net links read same sooner loaded result came =
    came_then (file (plan_file net) plan) (λ one. delays_of_good net links one delays) (λ both. TellsTimes net links both.0 both.1) told now before between end read (delays_sooner net links read delays) same sooner loaded result came

-- a plan whose verdict is another is not good
pub not_good : OnePlanVerdict → (net : Net) (links : List Link) (plan : Plan) (outcome : Outcome) → NamesVerdict net links plan outcome → IsGoodPlan net links plan → ⊥
not_good law net links plan outcome named good = named.bad (law net links plan named.verdict Good named.demand named.is good)

-- and no delays are loaded for it
pub came_to_verdict : OnePlanVerdict → (net : Net) (links : List Link) (plan : Plan) (delays : List ℕ) (told : List ℕ → Option (List ℕ)) (failed : Type 0) (stop : Stop) → StopIs (NamesVerdict net links plan) stop
    → CameTo (Loads (delays_of_good net links plan delays) (TellsTimes net links plan) told failed) (Err stop)
came_to_verdict law net links plan delays told failed OutOfMemory names = tt
came_to_verdict law net links plan delays told failed (Early report) names = inr (None, not_good law net links plan (text_alone report.text.items report.status) names, names)

pub timed_lawful : (net : Net) (links : List Link) (plan delays : List ℕ) → IsLawful (timed_plan net links plan delays)
timed_lawful net links plan delays =
    then_lawful (file (plan_file net) plan) (λ read. delays_of_good net links read delays) (file_lawful (plan_file net) plan)
    (λ read. where_lawful (IsGoodPlan net links read) (file (delay_file net) delays) (file_lawful (delay_file net) delays))
