-- `plan NET TRAFFIC`: the network is loaded, then the demand, and a good plan for it is printed.
use Rattle.std.specs.Prelude.{◌≡◌, List, AllPairs}
use Rattle.bt_net.specs.Network.{Net}
use Rattle.bt_matrix.specs.Traffic.{IsHeaviest}
use Rattle.bt_modes.specs.Few.{HasFewModes}
use Rattle.bt_demand.specs.declared.demand.Link.{Link}
use Rattle.bt_demand.specs.declared.plan.Plan.{Plan}
use Rattle.bt_demand.specs.Burst.{IsNotAfter}
use Rattle.bt_demand.specs.Plan.{IsGoodPlan}
use Rattle.bt_cut.specs.Cutting.{IsCutting}
use Rattle.bt_plan.specs.PlanSpelling.{plan_spelling}
use Rattle.bt_demand.specs.Traffic.{matrix_of}
use Rattle.bt_report.specs.declared.status.TheConstants.{DONE}
use Rattle.bt_report.specs.Outcome.{Outcome, text_alone}

-- the text of a good plan of edition 1 with few modes, with the bursts that these are cut into, in order, and the first of the heaviest
-- lines, and nothing else
pub record PrintsPlan (net : Net) (links : List Link) (outcome : Outcome) : Type 0 where
  pub plan : Plan
  pub edition : plan.edition.0 ≡ 1
  pub good : IsGoodPlan net links plan
  pub cut : IsCutting net links plan.schedule.modes plan.bursts
  pub ordered : AllPairs IsNotAfter plan.bursts
  pub heaviest : IsHeaviest (matrix_of net links) plan.schedule.critical plan.schedule.length
  pub few : HasFewModes (matrix_of net links) plan.schedule
  pub printed : outcome ≡ text_alone (plan_spelling net plan) DONE
