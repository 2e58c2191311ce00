-- Where the modes of a schedule begin and end, as the checker walks along them.
use Rattle.std.specs.Prelude.{◌≡◌, ℕ, ◌+◌, ◌<◌, ◌≤◌, List, length}
use Rattle.std.specs.List.{HoldsAt}
use Rattle.bt_frame.specs.declared.mode.Mode.{Mode}
use Rattle.bt_demand.specs.Plan.{begin_of}
use Rattle.bt_demand.specs.declared.holding.Turn.{Turn}

-- the mode at that place begins at that slot; behind the last mode, the place is their number
pub record IsTurn (modes : List Mode) (turn : Turn) : Type 0 where
  pub on_list : turn.place ≤ length modes
  pub begins : turn.begin ≡ begin_of modes turn.place

-- the slot is not before that mode, and before its end
pub record IsTurnAt (modes : List Mode) (slot : ℕ) (turn : Turn) : Type 0 where
  pub is : IsTurn modes turn
  pub begun : turn.begin ≤ slot
  pub not_over : turn.place < length modes → HoldsAt (λ mode. slot < turn.begin + mode.duration) modes turn.place
