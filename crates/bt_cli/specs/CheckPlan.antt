-- `check NET TRAFFIC PLAN`: the network is loaded, then the demand, then the plan, and the verdict is printed.
use Rattle.std.specs.Prelude.{ℕ, List, Some}
use Rattle.bt_net.specs.Network.{Net}
use Rattle.bt_demand.specs.declared.demand.Link.{Link}
use Rattle.bt_demand.specs.declared.plan.Plan.{Plan}
use Rattle.bt_demand.specs.declared.verdict.Verdict.{Verdict}
use Rattle.bt_demand.specs.Demand.{IsDemand}
use Rattle.bt_demand.specs.PlanVerdict.{IsPlanVerdict}
use Rattle.bt_cli.specs.Check.{verdict_status}
use Rattle.bt_cli.specs.Fitting.{asked_files}
use Rattle.bt_load.specs.Kinds.{plan_file}
use Rattle.bt_timeline.specs.Verdicts.{verdict_words}
use Rattle.bt_report.specs.Outcome.{Outcome, Says}
use Rattle.bt_load.specs.Loaders.{Loader, and_then, file}

-- the line of the verdict on the plan, for links that are a demand
pub record JudgesPlan (net : Net) (links : List Link) (plan : Plan) (outcome : Outcome) : Type 0 where
  pub demand : IsDemand links
  pub verdict : Verdict
  pub is : IsPlanVerdict net links plan verdict
  pub says : Says (verdict_words (Some net) verdict) (verdict_status verdict) outcome

-- the network and the demand are loaded, and where it fits, then the plan
abbrev pub plan_files : List ℕ → List ℕ → List ℕ → Loader ((Net × List Link) × Plan)
plan_files net traffic plan = and_then (asked_files net traffic) (λ asked. file (plan_file asked.0) plan)
