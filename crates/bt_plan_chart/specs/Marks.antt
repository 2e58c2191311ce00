-- Which bursts have a mark, and which of them meet one before them.
use Rattle.std.specs.Prelude.{◌≢◌, ◌⊎◌, ℕ, ◌<◌, List, []}
use Rattle.std.specs.List.{slice_index_or}
use Rattle.bt_net.specs.Network.{Net}
use Rattle.bt_demand.specs.declared.burst.Burst.{Burst}
use Rattle.bt_demand.specs.Apart.{Collide}
use Rattle.bt_plan_chart.specs.declared.scale.Direction.{Direction}
use Rattle.bt_plan_chart.specs.declared.scale.Direction.TheVariants.{Up, Down}
use Rattle.bt_plan_chart.specs.declared.scale.Scale.{Scale}
use Rattle.bt_plan_chart.specs.Chart.{clash_parts_at, no_burst}
use Rattle.bt_plan_chart.specs.Overlap.{MeetIn}

-- a burst of a list has a mark in the lane of its uplink beam or in that of its downlink beam
abbrev pub IsMarked : Net → Scale → List Burst → ℕ → Type 0
IsMarked net scale bursts place = (clash_parts_at net scale Up bursts place ≢ []) ⊎ (clash_parts_at net scale Down bursts place ≢ [])

-- a burst of a list meets one before it
abbrev pub MeetsOneBefore : Net → List Burst → ℕ → Type 0
MeetsOneBefore net bursts place = (before : ℕ) × (before < place) × Collide net (slice_index_or bursts before no_burst) (slice_index_or bursts place no_burst)

-- a burst of a list meets one before it where both are drawn
abbrev pub MeetsOneDrawn : Net → Scale → List Burst → ℕ → Type 0
MeetsOneDrawn net scale bursts place = (direction : Direction) × (before : ℕ) × (before < place) × MeetIn net scale direction (slice_index_or bursts before no_burst) (slice_index_or bursts place no_burst)
