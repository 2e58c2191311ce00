-- When a switching schedule is good for a traffic matrix: it carries all of it, in the least length.
use Rattle.std.specs.Prelude.{◌≡◌, ◌≢◌, ◌==◌, ℕ, ◌<◌, ◌≤◌, if◌then◌else◌, List, length, All, AllPairs, sum_by, slice_index}
use Rattle.bt_frame.specs.declared.mode.Mode.{Mode}
use Rattle.bt_frame.specs.declared.schedule.Critical.{Critical}
use Rattle.bt_frame.specs.declared.schedule.Schedule.{Schedule}
use Rattle.bt_matrix.specs.Traffic.{entry, line_sum, IsLine}

-- each of so many beams once
pub record IsPermutation (size : ℕ) (perm : List ℕ) : Type 0 where
  pub count : length perm ≡ size
  pub in_range : All (λ down. down < size) perm
  pub distinct : AllPairs (λ a b. a ≢ b) perm

-- the slots of one mode for a connection: all of its duration, or none
abbrev pub slots_in : ℕ → ℕ → Mode → ℕ
slots_in up down mode = if slice_index mode.perm up == down then mode.duration else 0

-- the slots in which these modes send an uplink beam to a downlink beam
abbrev pub slots_of : List Mode → ℕ → ℕ → ℕ
slots_of modes up down = sum_by (slots_in up down) modes

-- the slots of all modes together
abbrev pub total_duration : List Mode → ℕ
total_duration modes = sum_by (λ mode. mode.duration) modes

-- every mode sends each uplink beam to a downlink beam of its own
abbrev pub HasPermutations : List (List ℕ) → Schedule → Type 0
HasPermutations rows schedule = All (λ mode. IsPermutation (length rows) mode.perm) schedule.modes

-- every mode is held for a slot at least
abbrev pub HasDurations : Schedule → Type 0
HasDurations schedule = All (λ mode. 0 < mode.duration) schedule.modes

-- the modes fill the length
abbrev pub IsFilled : Schedule → Type 0
IsFilled schedule = total_duration schedule.modes ≡ schedule.length

-- The length is the greatest line sum, and the critical line has it. So no schedule that carries the matrix is shorter.
pub record IsLeast (rows : List (List ℕ)) (schedule : Schedule) : Type 0 where
  pub on_matrix : IsLine rows schedule.critical
  pub reached : line_sum rows schedule.critical ≡ schedule.length
  pub greatest : (line : Critical) → IsLine rows line → line_sum rows line ≤ schedule.length

-- the modes give each connection the slots that the matrix asks for
abbrev pub CarriesAll : List (List ℕ) → Schedule → Type 0
CarriesAll rows schedule = (up down : ℕ) → up < length rows → down < length rows → entry rows up down ≤ slots_of schedule.modes up down

-- The schedule carries the matrix, and no schedule that does is shorter.
pub record IsGood (rows : List (List ℕ)) (schedule : Schedule) : Type 0 where
  pub permutations : HasPermutations rows schedule
  pub durations : HasDurations schedule
  pub filled : IsFilled schedule
  pub least : IsLeast rows schedule
  pub carried : CarriesAll rows schedule
