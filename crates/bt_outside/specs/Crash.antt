-- What a crash may leave, where that is told: what a call does to it, and when it is what is held and nothing else.
use Rattle.std.specs.Prelude.{◌≡◌, ◌⊎◌, ◌↔◌, ℕ, ◌≤◌, List, [], ◌∷◌, ◌++◌, length, drop, flat_map, Contains, Option, Some, None, IfSome, IsSomeAnd}

-- what a crash at each moment before now may have left, and what a crash now may leave
pub record Crashes : Type 0 where
  pub past : List (List (List ℕ))
  pub now : List (List ℕ)

-- the clock: so many moments are past
abbrev pub clock : Crashes → ℕ
clock crashes = length crashes.past

-- the bytes that a crash at some moment since that time may have left
unfoldable pub left_since : Crashes → ℕ → List (List ℕ)
left_since crashes time = flat_map (λ lefts. lefts) (drop time (crashes.past ++ crashes.now ∷ []))

-- a crash at some moment since that time may have left these bytes
abbrev pub MayHaveLeft : Crashes → ℕ → List ℕ → Type 0
MayHaveLeft crashes time left = Contains (left_since crashes time) left

-- a crash now may leave these bytes
abbrev pub MayLeave : Crashes → List ℕ → Type 0
MayLeave crashes left = MayHaveLeft crashes (clock crashes) left

-- Time goes on: the clock does not fall, and what a crash since a time before the call may have left is what it may have left
-- before the call, or what a crash since the start of the call may have left.
pub record GoesOn (old new : Crashes) : Type 0 where
  pub later : clock old ≤ clock new
  pub nothing_else : (time : ℕ) (left : List ℕ) → time ≤ clock old → MayHaveLeft new time left → MayHaveLeft old time left ⊎ MayHaveLeft new (clock old) left
  pub keeps : (time : ℕ) (left : List ℕ) → time ≤ clock old → MayHaveLeft old time left → MayHaveLeft new time left

-- this holds of what is told before and after, which is told both times or not at all
abbrev pub Both : {T : Type 0} → (T → T → Type 0) → Option T → Option T → Type 0
Both R None None = Unit {0}
Both R None (Some new) = ⊥
Both R (Some old) None = ⊥
Both R (Some old) (Some new) = R old new

-- time goes on, where crashes are told
abbrev pub Elapses : Option Crashes → Option Crashes → Type 0
Elapses old new = Both GoesOn old new

-- a crash at some moment since the old one may have left only bytes of which this holds
abbrev pub LeavesSince : Option Crashes → Option Crashes → (List ℕ → Type 0) → Type 0
LeavesSince old new P = IfSome old (λ before. IfSome new (λ now. (left : List ℕ) → MayHaveLeft now (clock before) left → P left))

-- a crash now leaves only bytes of which this holds
abbrev pub LeavesOnly : Option Crashes → (List ℕ → Type 0) → Type 0
LeavesOnly crashes P = IfSome crashes (λ now. (left : List ℕ) → MayLeave now left → P left)

-- where crashes are told, a crash now leaves what is held and nothing else
abbrev pub IsSettled : Option (List ℕ) → Option Crashes → Type 0
IsSettled told crashes = IfSome crashes (λ now. IsSomeAnd told (λ held. (left : List ℕ) → MayLeave now left ↔ (left ≡ held)))

-- the bytes are among those that a crash could have left at that moment
abbrev pub CouldBeLeft : Option Crashes → List ℕ → Type 0
CouldBeLeft crashes left = IfSome crashes (λ now. MayLeave now left)

-- what a crash since a later time may have left is among what a crash since an earlier one may have left
abbrev pub InOrder : Type 0
InOrder = (crashes : Crashes) (early late : ℕ) (left : List ℕ) → early ≤ late → MayHaveLeft crashes late left → MayHaveLeft crashes early left
