-- Connections that get fewer slots than they want, as the checker looks for them.
use Rattle.std.specs.Prelude.{◌≡◌, ℕ, ◌<◌, ◌≤◌, List, length, All}
use Rattle.bt_frame.specs.declared.limits.TheConstants.{MOST_BEAMS}
use Rattle.bt_frame.specs.declared.mode.Mode.{Mode}
use Rattle.bt_frame.specs.declared.schedule.Schedule.{Schedule}
use Rattle.bt_matrix.specs.Traffic.{entry}
use Rattle.bt_matrix.specs.Good.{slots_of}
use Rattle.bt_demand.specs.declared.shortages.Short.{Short}

-- the connection wants more slots than the modes give it
pub record IsShort (rows : List (List ℕ)) (schedule : Schedule) (short : Short) : Type 0 where
  pub up_on_matrix : short.up.0 < length rows
  pub down_on_matrix : short.down.0 < length rows
  pub want : short.want ≡ entry rows short.up.0 short.down.0
  pub have : short.have ≡ slots_of schedule.modes short.up.0 short.down.0
  pub fewer : short.have < short.want

-- the modes give the slots that one uplink beam wants to each downlink beam below `end`
abbrev pub CarriesBelow : List (List ℕ) → Schedule → ℕ → ℕ → Type 0
CarriesBelow rows schedule up end = (down : ℕ) → down < end → entry rows up down ≤ slots_of schedule.modes up down

-- the mode's beams are on a table with a place for any two beams
pub record IsOfTable (mode : Mode) : Type 0 where
  pub up : length mode.perm ≤ MOST_BEAMS
  pub down : All (λ beam. beam < MOST_BEAMS) mode.perm
