-- Which verdict a schedule gets for a matrix and k connections at once: of all that is wrong, the fault of the lowest
-- number, at its first place.
use Rattle.std.specs.Prelude.{◌≡◌, ◌≢◌, ℕ, ◌<◌, ◌≤◌, List, length}
use Rattle.bt_matrix.specs.Traffic.{entry}
use Rattle.bt_demand.specs.Verdict.{IsEarlier, IsFirstWithout}
use Rattle.bt_trans.specs.declared.part.PartSchedule.{PartSchedule}
use Rattle.bt_trans.specs.declared.part.Bound.{Bound}
use Rattle.bt_trans.specs.declared.verdict.PartVerdict.{PartVerdict}
use Rattle.bt_trans.specs.declared.verdict.PartVerdict.TheVariants.{Good, Q1, Q2, Q3, Q4, Q5, Q6}
use Rattle.bt_trans.specs.Part.{IsPartSwitching, connections, part_slots_of, part_duration, IsLeastLength, HasSwitchings, HasFew, HasDurations, IsFilled, IsGoodPart}

-- the first place in row order where the modes give fewer slots than the matrix asks for
pub record IsFirstShort (rows : List (List ℕ)) (schedule : PartSchedule) (up down : ℕ) : Type 0 where
  pub up_on_matrix : up < length rows
  pub down_on_matrix : down < length rows
  pub short : part_slots_of schedule.modes up down < entry rows up down
  pub earlier : (i j : ℕ) → i < length rows → j < length rows → IsEarlier i j up down → entry rows i j ≤ part_slots_of schedule.modes i j

-- some bound reaches the number, so that it is the least length
abbrev pub IsLeast : List (List ℕ) → ℕ → ℕ → Type 0
IsLeast rows k slots = (bound : Bound) × IsLeastLength rows k slots bound

-- the schedule has the least length, and its bound reaches it
abbrev pub HasLeastLength : List (List ℕ) → ℕ → PartSchedule → Type 0
HasLeastLength rows k schedule = IsLeastLength rows k schedule.length schedule.bound

-- the verdict on a schedule
abbrev pub IsPartVerdict : List (List ℕ) → ℕ → PartSchedule → PartVerdict → Type 0
IsPartVerdict rows k schedule Good = IsGoodPart rows k schedule
IsPartVerdict rows k schedule (Q1 mode) = IsFirstWithout (λ m. IsPartSwitching (length rows) m.perm) schedule.modes mode
IsPartVerdict rows k schedule (Q2 mode) = HasSwitchings rows schedule × IsFirstWithout (λ m. connections m.perm ≤ k) schedule.modes mode
IsPartVerdict rows k schedule (Q3 mode) = HasSwitchings rows schedule × HasFew k schedule × IsFirstWithout (λ m. 0 < m.duration) schedule.modes mode
IsPartVerdict rows k schedule (Q4 sum length) = HasSwitchings rows schedule × HasFew k schedule × HasDurations schedule × (sum ≡ part_duration schedule.modes) × (length ≡ schedule.length) × (sum ≢ length)
IsPartVerdict rows k schedule (Q5 least) = HasSwitchings rows schedule × HasFew k schedule × HasDurations schedule × IsFilled schedule × (HasLeastLength rows k schedule → ⊥) × IsLeast rows k least
IsPartVerdict rows k schedule (Q6 up down want have) =
    HasSwitchings rows schedule × HasFew k schedule × HasDurations schedule × IsFilled schedule × HasLeastLength rows k schedule
    × IsFirstShort rows schedule up.0 down.0 × (want ≡ entry rows up.0 down.0) × (have ≡ part_slots_of schedule.modes up.0 down.0)
