-- Links whose bursts have another number of slots than they ask for, as the checker looks for them: by terminals.
use Rattle.std.specs.Prelude.{◌≡◌, ℕ, ◌<◌, ◌==◌, ◌&&◌, if◌then◌else◌, List, length, sum_by, All}
use Rattle.bt_frame.specs.declared.limits.TheConstants.{MOST_TERMINALS}
use Rattle.bt_frame.specs.declared.numbers.TermNo.{TermNo}
use Rattle.bt_matrix.specs.Traffic.{entry}
use Rattle.bt_net.specs.Network.{Net}
use Rattle.bt_net.specs.Terminals.{IsTerminal}
use Rattle.bt_demand.specs.declared.burst.Burst.{Burst}
use Rattle.bt_demand.specs.declared.demand.Link.{Link}
use Rattle.bt_demand.specs.PlanVerdict.{IsServed}

-- a table with a row for each terminal that there may be, and in it a place for each
pub record IsForTerminals (table : List (List ℕ)) : Type 0 where
  pub rows : length table ≡ MOST_TERMINALS
  pub columns : All (λ row. length row ≡ MOST_TERMINALS) table

-- the table has, at each two numbers, what the items with these numbers amount to together
pub record AreSumsAt {X : Type 0} (from to amount : X → ℕ) (items : List X) (table : List (List ℕ)) : Type 0 where
  pub shape : IsForTerminals table
  pub each : (i j : ℕ) → i < MOST_TERMINALS → j < MOST_TERMINALS → entry table i j ≡ sum_by (λ x. if from x == i && to x == j then amount x else 0) items

-- the table has the slots of the bursts from each terminal to each
abbrev pub AreSlotsSent : List Burst → List (List ℕ) → Type 0
AreSlotsSent bursts table = AreSumsAt (λ burst. burst.from.0) (λ burst. burst.to.0) (λ burst. burst.length) bursts table

-- the table has the slots that the link from each terminal to each asks for
abbrev pub AreUnitsAsked : List Link → List (List ℕ) → Type 0
AreUnitsAsked links table = AreSumsAt (λ link. link.from.0) (λ link. link.to.0) (λ link. link.units) links table

-- each link between terminals of the network has the slots that it asks for
abbrev pub AreServed : Net → List Link → List Burst → Type 0
AreServed net links bursts = (from to : TermNo) → IsTerminal net from → IsTerminal net to → IsServed links bursts from to
