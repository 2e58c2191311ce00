-- What is on the air in a frame, and when that is safe.
use Rattle.std.specs.Prelude.{◌≡◌, ◌⊎◌, if◌then◌else◌, List, [], ◌∷◌, All, AllPairs, Option, Some, None}
use Rattle.std.specs.List.{flat_map}
use Rattle.std.specs.List.Sorted.{IsPermutation}
use Rattle.bt_frame.specs.declared.mode.Mode.{Mode}
use Rattle.bt_frame.specs.declared.numbers.EditionNo.{EditionNo}
use Rattle.bt_frame.specs.declared.numbers.TermNo.{TermNo}
use Rattle.bt_net.specs.Network.{Net}
use Rattle.bt_demand.specs.declared.burst.Burst.{Burst}
use Rattle.bt_demand.specs.declared.plan.Plan.{Plan}
use Rattle.bt_demand.specs.Burst.{IsNotAfter}
use Rattle.bt_demand.specs.Plan.{Triple, all_triples, Meet, Connects}
use Rattle.bt_demand.specs.Flyable.{IsFlyable}
use Rattle.bt_air.specs.Orders.{fore_at}
use Rattle.bt_machines.specs.Slots.{HasSlot}
use Rattle.bt_site.specs.Event.{Opening, Event, Install, Happening}
use Rattle.bt_site.specs.World.{mark, plans, accepted, heard, held, terminals}
use Rattle.bt_machines.specs.Plans.{plan_of, modes_of, bursts_for}
use Rattle.bt_machines.specs.declared.burst_bank.Holding.{Holding}
use Rattle.bt_machines.specs.Said.{holds}

-- the edition in front
abbrev pub fore : Opening → List Happening → EditionNo
fore o past = fore_at (accepted o past) (mark o past)

-- the modes of the plan in front
abbrev pub modes_in_front : Opening → List Happening → List Mode
modes_in_front o past = modes_of (plan_of (plans o past) (fore o past))

-- the edition that is named, where it is held
abbrev pub where_held : List Holding → Option EditionNo → Option EditionNo
where_held held None = None
where_held held (Some edition) = if holds held edition then Some edition else None

-- the bursts of a terminal in the plan of an edition, if there is one
abbrev pub bursts_under : List Plan → TermNo → Option EditionNo → List Burst
bursts_under all terminal None = []
bursts_under all terminal (Some edition) = bursts_for terminal (plan_of all edition)

-- what a terminal transmits: its bursts in the plan of the edition that it heard, where it holds that edition
abbrev pub transmits : Opening → List Happening → TermNo → List Burst
transmits o past terminal = bursts_under (plans o past) terminal (where_held (held o past terminal) (heard o past terminal))

-- each terminal transmits all its bursts of the plan, or none
abbrev pub AreOfPlan : Option Plan → (TermNo → List Burst) → Type 0
AreOfPlan plan sends = (number : TermNo) → (sends number ≡ []) ⊎ (sends number ≡ bursts_for number plan)

-- the bursts of a frame: those of all terminals, in order
pub record IsAir (o : Opening) (past : List Happening) (bursts : List Burst) : Type 0 where
  pub ordered : AllPairs IsNotAfter bursts
  pub of_all : IsPermutation (flat_map (transmits o past) (terminals o)) bursts

-- the slot of the triple lies in the span of a mode that sends its uplink beam to its downlink beam
pub record IsSwitched (net : Net) (modes : List Mode) (triple : Triple) : Type 0 where
  pub mode : Mode
  pub spans : HasSlot modes triple.slot mode
  pub connected : Connects net mode triple.from triple.to

-- no two places of the triples meet, and the switch with these modes makes the connection of each
pub record IsSafe (net : Net) (modes : List Mode) (bursts : List Burst) : Type 0 where
  pub apart : AllPairs (λ a b. ¬ (Meet net a b)) (all_triples bursts)
  pub switched : All (IsSwitched net modes) (all_triples bursts)

-- each plan that opens or is installed can be flown
abbrev pub AreFlyable : Opening → List Event → Type 0
AreFlyable o [] = All (IsFlyable o.net) o.plans
AreFlyable o (Install plan ∷ earlier) = IsFlyable o.net plan × AreFlyable o earlier
AreFlyable o (_ ∷ earlier) = AreFlyable o earlier
