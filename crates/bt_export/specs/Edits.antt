-- The difference of two demands: the edits that bring the one to the other, and the block of a session in which a desk asks for them.
use Rattle.std.specs.Prelude.{◌≡◌, ℕ, ◌-◌, if◌then◌else◌, nat_lt, List, [], ◌∷◌, ◌++◌, map, flat_map, codes, decimal}
use Rattle.bt_net.specs.Network.{Net}
use Rattle.bt_net.specs.Terminals.{name_at}
use Rattle.bt_demand.specs.declared.demand.Link.{Link}
use Rattle.bt_demand.specs.Demand.{units_of}
use Rattle.bt_journal.specs.declared.call.Edit.TheVariants.{Drop}
use Rattle.bt_journal.specs.declared.call.Change.{Change}
use Rattle.bt_journal.specs.declared.call.Change.TheVariants as change
use Rattle.bt_history.specs.Changes.{IsDemandAfter}
use Rattle.bt_history.specs.Recovery.{Recovered}
use Rattle.bt_words.specs.Lines.{line_of}
use Rattle.bt_look.specs.Compact.{adds_of}

-- the slots that a link has beyond those that it has among others
abbrev pub beyond : List Link → Link → ℕ
beyond others link = link.units - units_of others link.from link.to

-- the link with these slots alone, where there are some
abbrev pub more_than : List Link → Link → List Link
more_than others link = if nat_lt 0 (beyond others link) then record { from = link.from; to = link.to; units = beyond others link } ∷ [] else []

-- what links have beyond others, in the order in which they stand
abbrev pub surplus : List Link → List Link → List Link
surplus links others = flat_map (more_than others) links

-- the drop of all that a link has
abbrev pub drop_of : Link → Change
drop_of link = change.Edit (Drop link.from link.to link.units)

-- a drop for each link, in order
abbrev pub drops_of : List Link → List Change
drops_of links = map drop_of links

-- the edits that bring a demand to the one that is wanted: drops first, so that each add finds room
abbrev pub edits_between : List Link → List Link → List Change
edits_between have want = drops_of (surplus have want) ++ adds_of (surplus want have)

-- `desk D drop FROM TO UNITS` or `desk D add FROM TO UNITS`
abbrev pub edit_line : Net → ℕ → List ℕ → Link → List ℕ
edit_line net desk kind link =
    line_of (codes "desk" ∷ decimal desk ∷ kind ∷ name_at net link.from ∷ name_at net link.to ∷ decimal link.units ∷ [])

-- the lines in which a desk drops what the first links have, and then adds what the others have
abbrev pub edit_lines : Net → ℕ → List Link → List Link → List ℕ
edit_lines net desk less more = flat_map (edit_line net desk (codes "drop")) less ++ flat_map (edit_line net desk (codes "add")) more

-- these lines, between the lines that open a block and have it played
abbrev pub block_with : Net → ℕ → List Link → List Link → List ℕ
block_with net desk less more = line_of (codes "round" ∷ []) ++ edit_lines net desk less more ++ line_of (codes "go" ∷ [])

-- the block of the edits from the one demand to the other, and nothing at all where there is none
abbrev pub block_lines : Net → ℕ → List Link → List Link → List ℕ
block_lines net desk [] [] = []
block_lines net desk less more = block_with net desk less more

-- the text is the block that brings the demand of the changes that the bytes tell to the one that is wanted
pub record TellsEdits (net : Net) (bytes : List ℕ) (desk : ℕ) (want : List Link) (text : List ℕ) : Type 0 where
  pub changes : List Change
  pub told : Recovered net bytes changes
  pub have : List Link
  pub demand : IsDemandAfter changes have
  pub spelled : text ≡ block_lines net desk (surplus have want) (surplus want have)
