-- How a burst time plan is spelled: its lines, each as its words, and a newline behind each of them.
use Rattle.std.specs.Prelude.{ℕ, ◌≤◌, codes, decimal, length, map, List, [], ◌∷◌, ◌++◌, All, AllPairs}
use Rattle.bt_frame.specs.declared.limits.TheConstants.{LAST_EDITION, LAST_TEXT_SLOT, MOST_BURST_SLOTS}
use Rattle.bt_text.specs.Text.{spaced, ended}
use Rattle.bt_frame.specs.declared.numbers.EditionNo.{EditionNo}
use Rattle.bt_net.specs.Network.{Net}
use Rattle.bt_demand.specs.declared.burst.Burst.{Burst}
use Rattle.bt_demand.specs.declared.plan.Plan.{Plan}
use Rattle.bt_demand.specs.Burst.{IsNotAfter}
use Rattle.bt_plan.specs.ScheduleSpelling.{length_line, critical_line, mode_line, IsInRange}
use Rattle.bt_net.specs.Terminals.{name_at, IsTerminal}

-- `plan E`
abbrev pub edition_line : EditionNo → List ℕ
edition_line edition = spaced (codes "plan" ∷ decimal edition.0 ∷ [])

-- `burst START LENGTH FROM TO`
abbrev pub burst_line : Net → Burst → List ℕ
burst_line net burst = spaced (codes "burst" ∷ decimal burst.start ∷ decimal burst.length ∷ name_at net burst.from ∷ name_at net burst.to ∷ [])

-- the edition, the length, the critical line, the modes and the bursts in order, and `end`
abbrev pub plan_lines : Net → Plan → List (List ℕ)
plan_lines net plan = edition_line plan.edition ∷ length_line plan.schedule.length ∷ critical_line plan.schedule.critical ∷ (map mode_line plan.schedule.modes ++ (map (burst_line net) plan.bursts ++ codes "end" ∷ []))

-- the text of the plan
abbrev pub plan_spelling : Net → Plan → List ℕ
plan_spelling net plan = ended (plan_lines net plan)

-- a burst that a text can spell for this network
pub record IsBurstInRange (net : Net) (burst : Burst) : Type 0 where
  pub start : burst.start ≤ LAST_TEXT_SLOT
  pub some : 1 ≤ burst.length
  pub few : burst.length ≤ MOST_BURST_SLOTS
  pub sends : IsTerminal net burst.from
  pub receives : IsTerminal net burst.to

-- a plan that a text can spell for this network
pub record IsPlanInRange (net : Net) (plan : Plan) : Type 0 where
  pub edition : plan.edition.0 ≤ LAST_EDITION
  pub schedule : IsInRange (length net.beams) plan.schedule
  pub bursts : All (IsBurstInRange net) plan.bursts
  pub ordered : AllPairs IsNotAfter plan.bursts
