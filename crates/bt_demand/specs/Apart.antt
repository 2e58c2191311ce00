-- Bursts in a network: between whom they are, which of them meet, and what each link and each terminal sends.
use Rattle.std.specs.Prelude.{ℕ, ◌==◌, ◌&&◌, if◌then◌else◌, List, filter, sum_by, All, AllPairs}
use Rattle.bt_frame.specs.declared.numbers.TermNo.{TermNo}
use Rattle.bt_net.specs.Network.{Net}
use Rattle.bt_net.specs.Terminals.{IsTerminal}
use Rattle.bt_demand.specs.declared.burst.Burst.{Burst}
use Rattle.bt_demand.specs.Burst.{Covers}
use Rattle.bt_demand.specs.Plan.{ShareABeam}

-- each burst is between terminals of the network
abbrev pub AreBetweenTerminals : Net → List Burst → Type 0
AreBetweenTerminals net bursts = All (λ burst. IsTerminal net burst.from × IsTerminal net burst.to) bursts

-- two bursts meet: they share a slot, and have their uplinks in one beam or their downlinks
pub record Collide (net : Net) (a b : Burst) : Type 0 where
  pub slot : ℕ
  pub first : Covers a slot
  pub second : Covers b slot
  pub beam : ShareABeam net a.from a.to b.from b.to

-- no two of the bursts meet
abbrev pub AreApart : Net → List Burst → Type 0
AreApart net bursts = AllPairs (λ a b. ¬ (Collide net a b)) bursts

-- the slots of all bursts of a link
abbrev pub slots_sent : List Burst → TermNo → TermNo → ℕ
slots_sent bursts from to = sum_by (λ burst. if burst.from.0 == from.0 && burst.to.0 == to.0 then burst.length else 0) bursts

-- the bursts that a terminal sends, in the order in which they stand
abbrev pub bursts_from : TermNo → List Burst → List Burst
bursts_from terminal bursts = filter (λ (burst : Burst). burst.from.0 == terminal.0) bursts
