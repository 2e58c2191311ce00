-- The desks of a round ascend by number, are 1 to 16, and have lines.
use Rattle.std.proofs.Common.{ℕ, zero, suc, ◌+◌, ◌<◌, ◌≤◌, List, [], ◌∷◌, ◌++◌, length, All, arith}
use Rattle.std.specs.Prelude.{AllPairs, flat_map}
use Rattle.std.proofs.lemmas.List.Elements.{All-append, All-nil, All-cons}
use Rattle.std.proofs.lemmas.List.Kept.{AllPairs-cons}
use Rattle.bt_script.specs.declared.line.ScriptLine.{ScriptLine}
use Rattle.bt_script.specs.declared.line.ScriptLine.TheVariants as line
use Rattle.bt_script.specs.declared.script.DeskLine.{DeskLine}
use Rattle.bt_script.specs.declared.script.Item.TheVariants as item
use Rattle.bt_script.specs.ScriptText.{round_lines, own_lines, entry_of, desks_of, round_of, items_at, items_of}
use Rattle.bt_script.specs.Desks.{AreDesks}
use Rattle.bt_script.specs.Named.{HasDesksInOrder}

-- a desk with its lines
abbrev pub Desk : Type 0
Desk = ℕ × List DeskLine

-- one desk before another
abbrev pub IsBefore : Desk → Desk → Type 0
IsBefore a b = a.0 < b.0

none_ordered : AllPairs IsBefore []
none_ordered i j d before within = absurd (omega (arith, before, within))

-- a desk in front of later ones
with_first : (desk : ℕ) (own : List DeskLine) (rest : List Desk) → All (λ (b : Desk). desk < b.0) rest → AllPairs IsBefore rest → AllPairs IsBefore (entry_of desk own ++ rest)
with_first desk [] rest later ordered = ordered
with_first desk (first ∷ more) rest later ordered = AllPairs-cons IsBefore (desk, first ∷ more) rest later ordered

-- so many desks from a number on are all at that number or later
entry_from : (least desk : ℕ) (own : List DeskLine) → least ≤ desk → All (λ (b : Desk). least ≤ b.0) (entry_of desk own)
entry_from least desk [] h = All-nil (λ (b : Desk). least ≤ b.0)
entry_from least desk (first ∷ more) h = All-cons (λ (b : Desk). least ≤ b.0) (desk, first ∷ more) [] h (All-nil (λ (b : Desk). least ≤ b.0))

desks_from : (least desk more : ℕ) (said : List ScriptLine) → least ≤ desk → All (λ (b : Desk). least ≤ b.0) (desks_of desk more said)
desks_from least desk zero said h = All-nil (λ (b : Desk). least ≤ b.0)
desks_from least desk (suc more) said h = All-append (λ (b : Desk). least ≤ b.0) (entry_of desk (flat_map (own_lines desk) said)) (desks_of (desk + 1) more said) (entry_from least desk (flat_map (own_lines desk) said) h) (desks_from least (desk + 1) more said (omega (arith, h)))

desks_ordered : (desk more : ℕ) (said : List ScriptLine) → AllPairs IsBefore (desks_of desk more said)
desks_ordered desk zero said = none_ordered
desks_ordered desk (suc more) said =
    let later : All (λ (b : Desk). desk + 1 ≤ b.0) (desks_of (desk + 1) more said) = desks_from (desk + 1) (desk + 1) more said (omega arith) in
    with_first desk (flat_map (own_lines desk) said) (desks_of (desk + 1) more said) (λ i d within. omega (arith, later i d within)) (desks_ordered (desk + 1) more said)

entry_below : (most desk : ℕ) (own : List DeskLine) → desk ≤ most → All (λ (b : Desk). b.0 ≤ most) (entry_of desk own)
entry_below most desk [] h = All-nil (λ (b : Desk). b.0 ≤ most)
entry_below most desk (first ∷ more) h = All-cons (λ (b : Desk). b.0 ≤ most) (desk, first ∷ more) [] h (All-nil (λ (b : Desk). b.0 ≤ most))

desks_below : (most desk more : ℕ) (said : List ScriptLine) → desk + more ≤ most + 1 → All (λ (b : Desk). b.0 ≤ most) (desks_of desk more said)
desks_below most desk zero said h = All-nil (λ (b : Desk). b.0 ≤ most)
desks_below most desk (suc more) said h = All-append (λ (b : Desk). b.0 ≤ most) (entry_of desk (flat_map (own_lines desk) said)) (desks_of (desk + 1) more said) (entry_below most desk (flat_map (own_lines desk) said) (omega (arith, h))) (desks_below most (desk + 1) more said (omega (arith, h)))

entry_lines : (desk : ℕ) (own : List DeskLine) → All (λ (b : Desk). 0 < length b.1) (entry_of desk own)
entry_lines desk [] = All-nil (λ (b : Desk). 0 < length b.1)
entry_lines desk (first ∷ more) = All-cons (λ (b : Desk). 0 < length b.1) (desk, first ∷ more) [] (omega arith) (All-nil (λ (b : Desk). 0 < length b.1))

desks_lines : (desk more : ℕ) (said : List ScriptLine) → All (λ (b : Desk). 0 < length b.1) (desks_of desk more said)
desks_lines desk zero said = All-nil (λ (b : Desk). 0 < length b.1)
desks_lines desk (suc more) said = All-append (λ (b : Desk). 0 < length b.1) (entry_of desk (flat_map (own_lines desk) said)) (desks_of (desk + 1) more said) (entry_lines desk (flat_map (own_lines desk) said)) (desks_lines (desk + 1) more said)

-- the desks that the lines say are those of a round
pub said_desks : (said : List ScriptLine) → AreDesks (desks_of 1 16 said)
said_desks said = record {
  ascend = desks_ordered 1 16 said;
  numbered = λ i d within. (desks_from 1 1 16 said (omega arith) i d within, desks_below 16 1 16 said (omega arith) i d within);
  have_lines = desks_lines 1 16 said;
}

-- the desks of what a line begins ascend
item_ordered : (first : ScriptLine) (rest : List ScriptLine) → All HasDesksInOrder (items_at first rest)
item_ordered line.Remark rest = All-nil HasDesksInOrder
item_ordered line.Round rest = All-cons HasDesksInOrder (item.Round (round_of (round_lines rest))) [] (desks_ordered 1 16 (round_lines rest)) (All-nil HasDesksInOrder)
item_ordered line.Restart rest = All-cons HasDesksInOrder item.Restart [] tt (All-nil HasDesksInOrder)
item_ordered (line.Desk number own) rest = All-nil HasDesksInOrder
item_ordered line.Plan rest = All-nil HasDesksInOrder
item_ordered (line.Air own) rest = All-nil HasDesksInOrder

-- the desks of each round of a text ascend
pub items_in_order : (said : List ScriptLine) → All HasDesksInOrder (items_of said)
items_in_order [] = All-nil HasDesksInOrder
items_in_order (first ∷ rest) = All-append HasDesksInOrder (items_at first rest) (items_of rest) (item_ordered first rest) (items_in_order rest)
