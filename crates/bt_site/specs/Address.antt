-- What a message that is said is for, and what it takes along. All of it is for bodies.
use Rattle.std.specs.Prelude.{◌≡◌, ℕ, ◌<◌, List, Option}
use Rattle.bt_demand.specs.declared.plan.Plan.{Plan}
use Rattle.bt_air.specs.declared.sent.Aired.{Aired}
use Rattle.bt_air.specs.declared.sent.Aired.TheVariants.{Load, PlanFor}
use Rattle.bt_machines.specs.Plans.{plan_of}

-- a PlanFor is for one of so many terminals
abbrev pub IsAddressed : ℕ → Aired → Type 0
IsAddressed terminals (PlanFor to load edition) = to.0 < terminals
IsAddressed terminals _ = Unit {0}

-- the plan is the one of the edition of a Load
abbrev pub IsLoaded : List Plan → Aired → Option Plan → Type 0
IsLoaded all (Load command edition) plan = plan ≡ plan_of all edition
IsLoaded all _ plan = Unit {0}
