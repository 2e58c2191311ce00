-- The plans that are installed. Lists of plans have the latest first.
use Rattle.std.specs.Prelude.{◌≡◌, ◌<◌, ◌==◌, if◌then◌else◌, Bool, false, List, [], ◌∷◌, Option, Some, None, AllPairs}
use Rattle.std.specs.List.{list_any}
use Rattle.bt_frame.specs.declared.mode.Mode.{Mode}
use Rattle.bt_frame.specs.declared.numbers.EditionNo.{EditionNo}
use Rattle.bt_frame.specs.declared.numbers.TermNo.{TermNo}
use Rattle.bt_demand.specs.Apart.{bursts_from}
use Rattle.bt_demand.specs.Burst.{IsNotAfter}
use Rattle.bt_demand.specs.Plan.{empty_plan}
use Rattle.bt_demand.specs.declared.burst.Burst.{Burst}
use Rattle.bt_demand.specs.declared.plan.Plan.{Plan}
use Rattle.bt_air.specs.Range.{IsWord}

-- the plan that was found already, or else a later one of that edition
abbrev pub first_or : Option Plan → EditionNo → Plan → Option Plan
first_or (Some plan) edition later = Some plan
first_or None edition later = if later.edition.0 == edition.0 then Some later else None

-- the plan of an edition: the first that was installed
abbrev pub plan_of : List Plan → EditionNo → Option Plan
plan_of [] edition = None
plan_of (later ∷ earlier) edition = first_or (plan_of earlier edition) edition later

-- the modes of a plan
abbrev pub modes_of : Option Plan → List Mode
modes_of None = []
modes_of (Some plan) = plan.schedule.modes

-- the bursts of a plan that a terminal transmits
abbrev pub bursts_for : TermNo → Option Plan → List Burst
bursts_for terminal None = []
bursts_for terminal (Some plan) = bursts_from terminal plan.bursts

-- the terminal transmits in the plan
abbrev pub has_burst : Option Plan → TermNo → Bool
has_burst None terminal = false
has_burst (Some plan) terminal = list_any (λ (burst : Burst). burst.from.0 == terminal.0) plan.bursts

-- editions ascend from the empty plan, which is the first; the latest stands first
abbrev pub StartsEmpty : List Plan → Type 0
StartsEmpty [] = ⊥
StartsEmpty (plan ∷ []) = plan ≡ empty_plan
StartsEmpty (plan ∷ before ∷ rest) = (before.edition.0 < plan.edition.0) × StartsEmpty (before ∷ rest)

-- the newest edition
abbrev pub newest_of : List Plan → EditionNo
newest_of [] = record { 0 = 0 }
newest_of (plan ∷ earlier) = plan.edition

-- the edition fits four bytes and the bursts stand in order, as in each plan that a program holds
pub record IsStored (plan : Plan) : Type 0 where
  pub edition : IsWord plan.edition.0
  pub ordered : AllPairs IsNotAfter plan.bursts
