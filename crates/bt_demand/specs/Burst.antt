-- Bursts and their order.
use Rattle.std.specs.Prelude.{◌≡◌, ℕ, ◌+◌, ◌<◌, ◌≤◌, ◌==◌, ◌&&◌, ◌||◌, nat_lt, nat_le, Bool, List, length, AllPairs}
use Rattle.bt_demand.specs.declared.burst.Burst.{Burst}

-- the slot is one of the burst's
pub record Covers (burst : Burst) (slot : ℕ) : Type 0 where
  pub from_start : burst.start ≤ slot
  pub before_end : slot < burst.start + burst.length

-- A burst does not belong behind another: by its start, then by the terminal that sends, then by the one that
-- receives.
pub record IsNotAfter (a b : Burst) : Type 0 where
  pub start : a.start ≤ b.start
  pub from : a.start ≡ b.start → a.from.0 ≤ b.from.0
  pub to : a.start ≡ b.start → a.from.0 ≡ b.from.0 → a.to.0 ≤ b.to.0

-- whether a burst does not belong behind another
abbrev pub is_not_after : Burst → Burst → Bool
is_not_after a b = nat_lt a.start b.start || (a.start == b.start && (nat_lt a.from.0 b.from.0 || (a.from.0 == b.from.0 && nat_le a.to.0 b.to.0)))

-- what holds of every list of bursts: they are in order, and not too many
pub record AreBursts (bursts : List Burst) : Type 0 where
  pub ordered : AllPairs IsNotAfter bursts
  pub few : length bursts ≤ 2147483648
