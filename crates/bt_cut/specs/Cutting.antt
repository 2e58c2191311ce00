-- The cutting of modes into bursts. A connection between two beams hands out its slots as they come in the frame: the
-- first to the first unit that its links ask for, link by link, and so on. Both are counted from 0, and the unit of a
-- number has the slot of that number.
use Rattle.std.specs.Prelude.{◌≡◌, ◌↔◌, ℕ, ◌+◌, ◌<◌, ◌≤◌, List, take, All, AllPairs}
use Rattle.std.specs.List.{HoldsAt}
use Rattle.bt_frame.specs.declared.numbers.BeamNo.{BeamNo}
use Rattle.bt_frame.specs.declared.mode.Mode.{Mode}
use Rattle.bt_net.specs.Network.{Net}
use Rattle.bt_matrix.specs.Good.{slots_in, slots_of}
use Rattle.bt_demand.specs.declared.burst.Burst.{Burst}
use Rattle.bt_demand.specs.declared.demand.Link.{Link}
use Rattle.bt_demand.specs.Burst.{Covers, IsNotAfter}
use Rattle.bt_demand.specs.Plan.{begin_of}
use Rattle.bt_demand.specs.Traffic.{units_between}
use Rattle.bt_net.specs.Terminals.{IsInBeam}

-- the unit has the number `unit` among those of the connection, and is one of the link at that place
pub record IsUnitOf (net : Net) (links : List Link) (up down : BeamNo) (place : ℕ) (unit : ℕ) : Type 0 where
  pub first : units_between net (take place links) up.0 down.0 ≤ unit
  pub last : HoldsAt (λ link. unit < units_between net (take place links) up.0 down.0 + link.units) links place

-- the slot of the frame has the number `number` among those of the connection, and is one of the mode at that place
pub record IsSlotOf (modes : List Mode) (up down : BeamNo) (place : ℕ) (number slot : ℕ) : Type 0 where
  pub first : slots_of (take place modes) up.0 down.0 ≤ number
  pub last : HoldsAt (λ mode. number < slots_of (take place modes) up.0 down.0 + slots_in up.0 down.0 mode) modes place
  pub place_in_mode : slot + slots_of (take place modes) up.0 down.0 ≡ begin_of modes place + number

-- a unit of the link takes this slot of the mode
pub record Takes (net : Net) (links : List Link) (modes : List Mode) (link mode slot : ℕ) : Type 0 where
  pub up : BeamNo
  pub down : BeamNo
  pub sends : HoldsAt (λ l. IsInBeam net l.from up) links link
  pub receives : HoldsAt (λ l. IsInBeam net l.to down) links link
  pub unit : ℕ
  pub of_link : IsUnitOf net links up down link unit
  pub of_mode : IsSlotOf modes up down mode unit slot

-- the burst is the slots of the mode that units of the link took, of which there are some
pub record IsCut (net : Net) (links : List Link) (modes : List Mode) (link mode : ℕ) (burst : Burst) : Type 0 where
  pub ends : HoldsAt (λ l. (l.from ≡ burst.from) × (l.to ≡ burst.to)) links link
  pub some : 0 < burst.length
  pub slots : (slot : ℕ) → Covers burst slot ↔ Takes net links modes link mode slot

-- The bursts are a cutting: each is what one link got of one mode, whatever a link got of a mode is among them, none
-- is listed twice, and they stand in order.
pub record IsCutting (net : Net) (links : List Link) (modes : List Mode) (bursts : List Burst) : Type 0 where
  pub ordered : AllPairs IsNotAfter bursts
  pub distinct : AllPairs (λ a b. (a ≡ b) → ⊥) bursts
  pub each : All (λ burst. (link : ℕ) × (mode : ℕ) × IsCut net links modes link mode burst) bursts
  pub all : (link mode : ℕ) (burst : Burst) → IsCut net links modes link mode burst → (place : ℕ) × HoldsAt (λ b. b ≡ burst) bursts place
