-- Which mode a bank's modes have in a slot of the frame.
use Rattle.std.specs.Prelude.{◌≡◌, ℕ, ◌+◌, ◌<◌, ◌≤◌, List, length}
use Rattle.std.specs.List.{HoldsAt}
use Rattle.bt_frame.specs.declared.mode.Mode.{Mode}
use Rattle.bt_demand.specs.Plan.{begin_of}

-- the slot lies in the span of this mode, which begins where the modes before it end
pub record HasSlot (modes : List Mode) (slot : ℕ) (mode : Mode) : Type 0 where
  pub place : ℕ
  pub in_list : place < length modes
  pub is : HoldsAt (λ m. m ≡ mode) modes place
  pub begun : begin_of modes place ≤ slot
  pub not_ended : slot < begin_of modes place + mode.duration
