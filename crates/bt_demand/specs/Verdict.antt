-- Which verdict a schedule gets for a matrix: of all that is wrong, the fault of the lowest number, at its first
-- place.
use Rattle.std.specs.Prelude.{◌≡◌, ◌≢◌, ◌⊎◌, ℕ, ◌<◌, ◌≤◌, List, length, take, All}
use Rattle.std.specs.List.{HoldsAt}
use Rattle.bt_frame.specs.declared.schedule.Schedule.{Schedule}
use Rattle.bt_matrix.specs.Traffic.{entry, IsHeaviest}
use Rattle.bt_matrix.specs.Good.{IsPermutation, HasPermutations, HasDurations, IsFilled, IsLeast, IsGood, slots_of, total_duration}
use Rattle.bt_demand.specs.declared.verdict.Verdict.{Verdict}
use Rattle.bt_demand.specs.declared.verdict.Verdict.TheVariants.{Good, V1, V2, V3, V4, V5, V6, V7, V8}

-- the first place of a list whose item breaks a rule
pub record IsFirstWithout {A : Type 0} (Rule : A → Type 0) (items : List A) (place : ℕ) : Type 0 where
  pub within : place < length items
  pub earlier : All Rule (take place items)
  pub broken : HoldsAt (λ item. Rule item → ⊥) items place

-- places of the matrix in row order: the row first, then the column
abbrev pub IsEarlier : ℕ → ℕ → ℕ → ℕ → Type 0
IsEarlier i j up down = (i < up) ⊎ ((i ≡ up) × (j < down))

-- the first place in row order where the modes give fewer slots than the matrix asks for
pub record IsFirstShort (rows : List (List ℕ)) (schedule : Schedule) (up down : ℕ) : Type 0 where
  pub up_on_matrix : up < length rows
  pub down_on_matrix : down < length rows
  pub short : slots_of schedule.modes up down < entry rows up down
  pub earlier : (i j : ℕ) → i < length rows → j < length rows → IsEarlier i j up down → entry rows i j ≤ slots_of schedule.modes i j

-- The verdict on a schedule. V5 to V7 speak of bursts, which a schedule has not.
abbrev pub IsVerdict : List (List ℕ) → Schedule → Verdict → Type 0
IsVerdict rows schedule Good = IsGood rows schedule
IsVerdict rows schedule (V1 mode) = IsFirstWithout (λ m. IsPermutation (length rows) m.perm) schedule.modes mode
IsVerdict rows schedule (V2 mode) = HasPermutations rows schedule × IsFirstWithout (λ m. 0 < m.duration) schedule.modes mode
IsVerdict rows schedule (V3 sum length) = HasPermutations rows schedule × HasDurations schedule × (sum ≡ total_duration schedule.modes) × (length ≡ schedule.length) × (sum ≢ length)
IsVerdict rows schedule (V4 critical sum) = HasPermutations rows schedule × HasDurations schedule × IsFilled schedule × (IsLeast rows schedule → ⊥) × IsHeaviest rows critical sum
IsVerdict rows schedule (V5 _ _) = ⊥
IsVerdict rows schedule (V6 _) = ⊥
IsVerdict rows schedule (V7 _ _ _ _) = ⊥
IsVerdict rows schedule (V8 up down want have) = HasPermutations rows schedule × HasDurations schedule × IsFilled schedule × IsLeast rows schedule × IsFirstShort rows schedule up.0 down.0 × (want ≡ entry rows up.0 down.0) × (have ≡ slots_of schedule.modes up.0 down.0)
