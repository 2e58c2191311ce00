-- Switching schedules in which uplink beams may be silent: so many connections at once at most.
use Rattle.std.specs.Prelude.{◌≡◌, ◌==◌, ◌⊎◌, ℕ, ◌+◌, ◌-◌, ◌*◌, ◌<◌, ◌≤◌, if◌then◌else◌, not, List, length, All, AllPairs, sum, sum_by, count_by, slice_index}
use Rattle.bt_frame.specs.declared.schedule.Critical.{Critical}
use Rattle.bt_matrix.specs.Traffic.{entry, line_sum, IsLine, IsHeaviest}
use Rattle.bt_trans.specs.declared.part.TheConstants.{SILENT}
use Rattle.bt_trans.specs.declared.part.PartMode.{PartMode}
use Rattle.bt_trans.specs.declared.part.PartSchedule.{PartSchedule}
use Rattle.bt_trans.specs.declared.part.Bound.{Bound}
use Rattle.bt_trans.specs.declared.part.Bound.TheVariants.{Line, Total}

-- one value for each beam: a downlink beam of its own, or silence
pub record IsPartSwitching (size : ℕ) (perm : List ℕ) : Type 0 where
  pub count : length perm ≡ size
  pub in_range : All (λ down. (down ≡ SILENT) ⊎ (down < size)) perm
  pub distinct : AllPairs (λ a b. a ≡ b → a ≡ SILENT) perm

-- how many uplink beams are not silent
abbrev pub connections : List ℕ → ℕ
connections perm = count_by (λ down. not (down == SILENT)) perm

-- the slots of one mode for a connection: all of its duration, or none
abbrev pub part_slots_in : ℕ → ℕ → PartMode → ℕ
part_slots_in up down mode = if slice_index mode.perm up == down then mode.duration else 0

-- the slots in which these modes send an uplink beam to a downlink beam
abbrev pub part_slots_of : List PartMode → ℕ → ℕ → ℕ
part_slots_of modes up down = sum_by (part_slots_in up down) modes

-- the slots of all modes together
abbrev pub part_duration : List PartMode → ℕ
part_duration modes = sum_by (λ mode. mode.duration) modes

-- all entries of a matrix together
abbrev pub total_slots : List (List ℕ) → ℕ
total_slots rows = sum_by sum rows

-- what the bound names needs that many slots: a line of this sum, or the total, divided by k and rounded up
abbrev pub IsReached : List (List ℕ) → ℕ → ℕ → Bound → Type 0
IsReached rows k slots (Line line) = IsLine rows line × (line_sum rows line ≡ slots)
IsReached rows k slots Total = (total_slots rows ≤ k * slots) × (k * slots < total_slots rows + k)

-- The greater of the greatest line sum, and of the total divided by k and rounded up: no line is longer, the total has room,
-- and the bound reaches it.
pub record IsLeastLength (rows : List (List ℕ)) (k slots : ℕ) (bound : Bound) : Type 0 where
  pub lines : (line : Critical) → IsLine rows line → line_sum rows line ≤ slots
  pub total : total_slots rows ≤ k * slots
  pub reached : IsReached rows k slots bound

-- the bound is the first heaviest line where that has so many slots, else the total
abbrev pub IsNamed : List (List ℕ) → ℕ → Bound → Type 0
IsNamed rows slots (Line line) = IsHeaviest rows line slots
IsNamed rows slots Total = (line : Critical) → IsLine rows line → line_sum rows line < slots

-- every mode gives each uplink beam a downlink beam of its own, or none
abbrev pub HasSwitchings : List (List ℕ) → PartSchedule → Type 0
HasSwitchings rows schedule = All (λ mode. IsPartSwitching (length rows) mode.perm) schedule.modes

-- no mode has more than so many connections
abbrev pub HasFew : ℕ → PartSchedule → Type 0
HasFew k schedule = All (λ mode. connections mode.perm ≤ k) schedule.modes

-- no more modes than a matrix of twice the beams less k lines has entries
abbrev pub HasFewPartModes : List (List ℕ) → ℕ → PartSchedule → Type 0
HasFewPartModes rows k schedule = length schedule.modes ≤ (length rows + length rows - k) * (length rows + length rows - k)

-- every mode is held for a slot at least
abbrev pub HasDurations : PartSchedule → Type 0
HasDurations schedule = All (λ mode. 0 < mode.duration) schedule.modes

-- the modes fill the length
abbrev pub IsFilled : PartSchedule → Type 0
IsFilled schedule = part_duration schedule.modes ≡ schedule.length

-- the modes give each connection the slots that the matrix asks for
abbrev pub CarriesAll : List (List ℕ) → PartSchedule → Type 0
CarriesAll rows schedule = (up down : ℕ) → up < length rows → down < length rows → entry rows up down ≤ part_slots_of schedule.modes up down

-- The schedule carries the matrix with k connections at once at most, and is as long as it must be.
pub record IsGoodPart (rows : List (List ℕ)) (k : ℕ) (schedule : PartSchedule) : Type 0 where
  pub switchings : HasSwitchings rows schedule
  pub few : HasFew k schedule
  pub durations : HasDurations schedule
  pub filled : IsFilled schedule
  pub least : IsLeastLength rows k schedule.length schedule.bound
  pub carried : CarriesAll rows schedule
