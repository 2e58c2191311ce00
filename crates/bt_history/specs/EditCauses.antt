-- What refuses an edit: equal ends, a link that holds too little, a row or a column that would have more slots than the
-- frame.
use Rattle.std.specs.Prelude.{◌≡◌, ℕ, ◌<◌, ◌≤◌, List, [], ◌∷◌, ◌++◌}
use Rattle.bt_frame.specs.declared.numbers.BeamNo.{BeamNo}
use Rattle.bt_net.specs.Network.{Net}
use Rattle.bt_net.specs.Terminals.{IsInBeam}
use Rattle.bt_matrix.specs.Traffic.{row_sum, column_sum}
use Rattle.bt_journal.specs.declared.call.Edit.{Edit}
use Rattle.bt_journal.specs.declared.call.Edit.TheVariants.{Add, Drop, Move}
use Rattle.bt_journal.specs.declared.call.Change.{Change}
use Rattle.bt_journal.specs.declared.call.Change.TheVariants as change
use Rattle.bt_history.specs.Occupancy.{HasEnds}
use Rattle.bt_history.specs.Changes.{held_after, matrix_after}

-- the list with this edit behind it
abbrev pub with_edit : List Change → Edit → List Change
with_edit changes edit = changes ++ change.Edit edit ∷ []

-- the link that loses holds so many slots, fewer than the edit takes from it
abbrev pub TakesTooMuch : List Change → Edit → ℕ → Type 0
TakesTooMuch changes (Add _ _ _) held = ⊥
TakesTooMuch changes (Drop from to units) held = (held ≡ held_after changes from to) × (held < units)
TakesTooMuch changes (Move from to _ _ units) held = (held ≡ held_after changes from to) × (held < units)

-- the link that gains is from a terminal of this beam
abbrev pub GainsFrom : Net → Edit → BeamNo → Type 0
GainsFrom net (Add from _ _) beam = IsInBeam net from beam
GainsFrom net (Drop _ _ _) beam = ⊥
GainsFrom net (Move _ _ new_from _ _) beam = IsInBeam net new_from beam

-- the link that gains is to a terminal of this beam
abbrev pub GainsTo : Net → Edit → BeamNo → Type 0
GainsTo net (Add _ to _) beam = IsInBeam net to beam
GainsTo net (Drop _ _ _) beam = ⊥
GainsTo net (Move _ _ _ new_to _) beam = IsInBeam net new_to beam

-- with the edit made, the uplink beam of the link that gains would send in so many slots, and the frame has fewer
pub record OverfillsRow (net : Net) (changes : List Change) (edit : Edit) (beam : BeamNo) (sum : ℕ) : Type 0 where
  pub gains : GainsFrom net edit beam
  pub number : sum ≡ row_sum (matrix_after net (with_edit changes edit)) beam.0
  pub over : net.slots < sum

-- with the edit made, the downlink beam of the link that gains would receive in so many slots, and the frame has fewer
pub record OverfillsColumn (net : Net) (changes : List Change) (edit : Edit) (beam : BeamNo) (sum : ℕ) : Type 0 where
  pub gains : GainsTo net edit beam
  pub number : sum ≡ column_sum (matrix_after net (with_edit changes edit)) beam.0
  pub over : net.slots < sum

-- the link that loses holds what the edit takes from it
abbrev pub IsThere : List Change → Edit → Type 0
IsThere changes (Add _ _ _) = Unit {0}
IsThere changes (Drop from to units) = units ≤ held_after changes from to
IsThere changes (Move from to _ _ units) = units ≤ held_after changes from to

-- with the edit made, the uplink beam of the link that gains sends in no more slots than the frame has
abbrev pub FitsRow : Net → List Change → Edit → Type 0
FitsRow net changes edit = (beam : BeamNo) → GainsFrom net edit beam → row_sum (matrix_after net (with_edit changes edit)) beam.0 ≤ net.slots

-- with the edit made, the downlink beam of the link that gains receives in no more slots than the frame has
abbrev pub FitsColumn : Net → List Change → Edit → Type 0
FitsColumn net changes edit = (beam : BeamNo) → GainsTo net edit beam → column_sum (matrix_after net (with_edit changes edit)) beam.0 ≤ net.slots

-- the edit has no cause of a refusal of its own
abbrev pub IsGoodEdit : Net → List Change → Edit → Type 0
IsGoodEdit net changes edit = HasEnds edit × IsThere changes edit × FitsRow net changes edit × FitsColumn net changes edit
