-- `timing NET TRAFFIC PLAN DELAYS`: the network is loaded, then the demand, then the plan; where that is good, the delays, and it
-- is printed when each burst is to be sent.
use Rattle.std.specs.Prelude.{◌≡◌, ◌≢◌, ℕ, List, Option, Some, None}
use Rattle.bt_net.specs.Network.{Net}
use Rattle.bt_demand.specs.declared.demand.Link.{Link}
use Rattle.bt_demand.specs.declared.plan.Plan.{Plan}
use Rattle.bt_demand.specs.Apart.{AreBetweenTerminals}
use Rattle.bt_demand.specs.Demand.{IsDemand}
use Rattle.bt_demand.specs.Plan.{IsGoodPlan}
use Rattle.bt_demand.specs.declared.verdict.Verdict.{Verdict}
use Rattle.bt_demand.specs.declared.verdict.Verdict.TheVariants.{Good}
use Rattle.bt_demand.specs.PlanVerdict.{IsPlanVerdict}
use Rattle.bt_timing.specs.Times.{Times, AreTimes}
use Rattle.bt_timing.specs.SendsText.{sends_spelling}
use Rattle.bt_timeline.specs.Verdicts.{verdict_words}
use Rattle.bt_report.specs.declared.status.TheConstants.{DONE, NOT_GOOD}
use Rattle.bt_cli.specs.Fitting.{asked_files}
use Rattle.bt_load.specs.Kinds.{plan_file, delay_file}
use Rattle.bt_report.specs.Outcome.{Outcome, text_alone, Says}
use Rattle.bt_load.specs.Loaders.{Loader, and_then, file, only_where}

-- the plan is not good, and what is wrong with it first is named, for links that are a demand
pub record NamesVerdict (net : Net) (links : List Link) (plan : Plan) (outcome : Outcome) : Type 0 where
  pub demand : IsDemand links
  pub verdict : Verdict
  pub is : IsPlanVerdict net links plan verdict
  pub bad : verdict ≢ Good
  pub says : Says (verdict_words (Some net) verdict) NOT_GOOD outcome

-- The text of when the bursts of the plan are to be sent, and nothing else. That the bursts are between terminals and what
-- holds of the times is what the law of arrivals asks for beside a good plan.
pub record PrintsSends (net : Net) (plan : Plan) (times : Times) (outcome : Outcome) : Type 0 where
  pub between : AreBetweenTerminals net plan.bursts
  pub sound : AreTimes times
  pub printed : outcome ≡ text_alone (sends_spelling net times plan.bursts) DONE

-- the plan is not good, and what is wrong with it is named; or it is, and by these delays its times are printed
abbrev pub TellsTimes : Net → List Link → Plan → Option Times → Outcome → Type 0
TellsTimes net links plan None = NamesVerdict net links plan
TellsTimes net links plan (Some times) = PrintsSends net plan times

-- the delays are loaded, where the plan is good
abbrev pub delays_of_good : Net → List Link → Plan → List ℕ → Loader (Option Times)
delays_of_good net links plan delays = only_where (IsGoodPlan net links plan) (file (delay_file net) delays)

-- the plan is loaded, and where it is good, then the delays
abbrev pub timed_plan : Net → List Link → List ℕ → List ℕ → Loader (Plan × Option Times)
timed_plan net links plan delays = and_then (file (plan_file net) plan) (λ read. delays_of_good net links read delays)

-- the network and the demand are loaded, and where it fits, then the plan, and where that is good, the delays
abbrev pub delay_files : List ℕ → List ℕ → List ℕ → List ℕ → Loader ((Net × List Link) × (Plan × Option Times))
delay_files net traffic plan delays = and_then (asked_files net traffic) (λ asked. timed_plan asked.0 asked.1 plan delays)
