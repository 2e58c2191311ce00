-- The plans that the centre has, and how they are found. All of it but `Planned` is for bodies alone.
use Rattle.std.specs.Prelude.{◌≡◌, ℕ, ◌&&◌, ◌<◌, ◌≤◌, Bool, List, map, reverse, length, Option, Some, slice_index_or as get_or, All}
use Rattle.bt_frame.specs.declared.limits.TheConstants.{MOST_TERMINALS}
use Rattle.bt_frame.specs.declared.numbers.EditionNo.{EditionNo}
use Rattle.bt_frame.specs.declared.numbers.TermNo.{TermNo}
use Rattle.bt_demand.specs.declared.burst.Burst.{Burst}
use Rattle.bt_demand.specs.declared.plan.Plan.{Plan}
use Rattle.bt_machines.specs.Centre.{State as Centre}
use Rattle.bt_machines.specs.Plans.{IsStored, StartsEmpty, has_burst, plan_of}
use Rattle.bt_machines.specs.Terminals.{has}
use Rattle.bt_site.specs.Shares.{shares_of}

-- the number of terminals, and all plans with the latest first
pub record Planned : Type 0 where
  pub terminals : ℕ
  pub all : List Plan

-- the plans that a trace tells, the latest first
abbrev pub plans_told : List (Plan × Unit {0}) → List Plan
plans_told installed = reverse (map (λ (one : Plan × Unit {0}). one.0) installed)

-- what is kept of each plan: its edition, and its bursts by terminal
pub record Index : Type 0 where
  pub editions : List EditionNo
  pub shares : List (List (List Burst))

-- every plan is found by the index
pub record IsIndexed (planned : Planned) (index : Index) : Type 0 where
  pub starts : StartsEmpty planned.all
  pub stored : All IsStored planned.all
  pub few : planned.terminals ≤ MOST_TERMINALS
  pub editions : index.editions ≡ map (λ (plan : Plan). plan.edition) (reverse planned.all)
  pub shares : index.shares ≡ map (λ (plan : Plan). shares_of planned.terminals plan.bursts) (reverse planned.all)

-- the plan of an edition stands at this place among all, the first first
pub record StandsAt (all : List Plan) (edition : EditionNo) (place : ℕ) : Type 0 where
  pub within : place < length all
  pub is : (other : Plan) → plan_of all edition ≡ Some (get_or (reverse all) place other)

-- the terminal asks the centre, and transmits in the plan
abbrev pub is_answered : Option Plan → Centre → TermNo → Bool
is_answered plan s terminal = has s.asking terminal && has_burst plan terminal
