-- The bursts of the first links of a demand, before they are put in order.
use Rattle.std.specs.Prelude.{◌≡◌, ℕ, ◌<◌, List, take, All, AllPairs, Contains}
use Rattle.std.specs.List.{HoldsAt}
use Rattle.bt_frame.specs.declared.numbers.BeamNo.{BeamNo}
use Rattle.bt_frame.specs.declared.mode.Mode.{Mode}
use Rattle.bt_net.specs.Network.{Net}
use Rattle.bt_demand.specs.declared.burst.Burst.{Burst}
use Rattle.bt_demand.specs.declared.demand.Link.{Link}
use Rattle.bt_demand.specs.Traffic.{units_between}
use Rattle.bt_net.specs.Terminals.{IsInBeam}
use Rattle.bt_cut.specs.Serving.{IsPiece}

-- the burst is the piece of the link in that mode
pub record IsPart (net : Net) (links : List Link) (modes : List Mode) (link mode : ℕ) (burst : Burst) : Type 0 where
  pub up : BeamNo
  pub down : BeamNo
  pub sends : HoldsAt (λ l. IsInBeam net l.from up) links link
  pub receives : HoldsAt (λ l. IsInBeam net l.to down) links link
  pub piece : HoldsAt (λ l. IsPiece modes up.0 down.0 l.from l.to (units_between net (take link links) up.0 down.0) l.units mode burst) links link

-- the bursts are all parts of so many links, each once
pub record AreParts (net : Net) (links : List Link) (modes : List Mode) (count : ℕ) (bursts : List Burst) : Type 0 where
  pub each : All (λ burst. (link : ℕ) × (mode : ℕ) × (link < count) × IsPart net links modes link mode burst) bursts
  pub all : (link mode : ℕ) (burst : Burst) → link < count → IsPart net links modes link mode burst → Contains bursts burst
  pub distinct : AllPairs (λ a b. (a ≡ b) → ⊥) bursts
