-- What contracts see of an occupancy, what an edit asks of the links of its demand, and what it makes of them.
use Rattle.std.specs.Prelude.{◌≡◌, ◌⊎◌, ℕ, ◌<◌, ◌≤◌, List, length}
use Rattle.bt_frame.specs.declared.numbers.TermNo.{TermNo}
use Rattle.bt_net.specs.Network.{Net}
use Rattle.bt_demand.specs.declared.demand.Link.{Link}
use Rattle.bt_demand.specs.Demand.{units_of, Gains}
use Rattle.bt_demand.specs.Rows.{sent_by}
use Rattle.bt_journal.specs.declared.call.Edit.{Edit}
use Rattle.bt_journal.specs.declared.call.Edit.TheVariants.{Add, Drop, Move}

-- a network, the links of the demand on it, for how many links of one sender and for how many senders there is room, and for how many
-- more entries of the matrix
pub record Occupied : Type 0 where
  pub net : Net
  pub links : List Link
  pub link_room : ℕ
  pub row_room : ℕ
  pub entry_room : ℕ

-- there is room for one link more that the terminal sends on, for a row of its own, and for the link's entry
pub record HasRoomFrom (occupied : Occupied) (sender : TermNo) : Type 0 where
  pub link : length (sent_by sender occupied.links) < occupied.link_room
  pub row : sender.0 < occupied.row_room
  pub entry : 0 < occupied.entry_room

-- there is room for the edit: for the link that gains, and none is asked for one that loses
abbrev pub HasRoom : Occupied → Edit → Type 0
HasRoom occupied (Add from _ _) = HasRoomFrom occupied from
HasRoom occupied (Drop _ _ _) = Unit {0}
HasRoom occupied (Move _ _ new_from _ _) = HasRoomFrom occupied new_from

-- the edit names a link from a terminal to itself
abbrev pub HasEqualEnds : Edit → Type 0
HasEqualEnds (Add from to _) = from.0 ≡ to.0
HasEqualEnds (Drop from to _) = from.0 ≡ to.0
HasEqualEnds (Move from to new_from new_to _) = (from.0 ≡ to.0) ⊎ (new_from.0 ≡ new_to.0)

-- the edit names no link from a terminal to itself
abbrev pub HasEnds : Edit → Type 0
HasEnds edit = ¬ (HasEqualEnds edit)

-- the links before and after an edit; between the two halves of a Move the link that gains has its slots, and the one that loses
-- has them still
abbrev pub EditsLinks : List Link → Edit → List Link → Type 0
EditsLinks old (Add from to units) new = Gains old new from to units
EditsLinks old (Drop from to units) new = Gains new old from to units
EditsLinks old (Move from to new_from new_to units) new = (half : List Link) × Gains old half new_from new_to units × Gains new half from to units

-- the link that loses has what the edit takes from it
abbrev pub HoldsTaken : List Link → Edit → Type 0
HoldsTaken links (Add _ _ _) = Unit {0}
HoldsTaken links (Drop from to units) = units ≤ units_of links from to
HoldsTaken links (Move from to _ _ units) = units ≤ units_of links from to
