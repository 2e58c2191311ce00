-- How nodes are linked, and what a change of the links leaves.
use Rattle.std.specs.Prelude.{◌≡◌, ◌≢◌, ℕ, ◌<◌, ◌≤◌, List, [], ◌∷◌, length, Option, None, Some}
use Rattle.std.specs.List.{slice_index_or}
use Rattle.bt_matrix.specs.declared.node.Node.{Node}
use Rattle.bt_matrix.specs.declared.node.Neighbours.{Neighbours}

-- no node's
abbrev pub no_neighbours : Neighbours
no_neighbours = record { before = 0; after = 0 }

abbrev pub no_node : Node
no_node = record { entry = record { up = 0; down = 0; units = 0 }; row = no_neighbours; column = no_neighbours }

-- the node of an index
abbrev pub node : List Node → ℕ → Node
node nodes k = slice_index_or nodes k no_node

-- the nodes of one line of the table, in order
abbrev pub nodes_of : List (Option ℕ) → List ℕ
nodes_of [] = []
nodes_of (None ∷ places) = nodes_of places
nodes_of (Some k ∷ places) = k ∷ nodes_of places

-- the first of these, or else the one that follows
abbrev pub first_or : List ℕ → ℕ → ℕ
first_or [] e = e
first_or (k ∷ ks) e = k

-- the last of these, or else the one before
abbrev pub last_or : ℕ → List ℕ → ℕ
last_or a [] = a
last_or a (k ∷ ks) = last_or k ks

-- the second stands right after the first, and the first right before the second
abbrev pub AreNeighbours : (ℕ → Neighbours) → ℕ → ℕ → Type 0
AreNeighbours ends a b = ((ends a).after ≡ b) × ((ends b).before ≡ a)

-- from the one node the links run through these nodes in this order to the other, and back the same way
abbrev pub Runs : (ℕ → Neighbours) → ℕ → List ℕ → ℕ → Type 0
Runs ends a [] e = AreNeighbours ends a e
Runs ends a (k ∷ ks) e = AreNeighbours ends a k × Runs ends k ks e

-- two nodes became neighbours, and no other link changed
pub record IsJoined (old new : ℕ → Neighbours) (a b : ℕ) : Type 0 where
  pub after : (new a).after ≡ b
  pub before : (new b).before ≡ a
  pub other_after : (j : ℕ) → j ≢ a → (new j).after ≡ (old j).after
  pub other_before : (j : ℕ) → j ≢ b → (new j).before ≡ (old j).before

-- a node came between two, and no other link changed
pub record IsInserted (old new : ℕ → Neighbours) (a k b : ℕ) : Type 0 where
  pub first : AreNeighbours new a k
  pub second : AreNeighbours new k b
  pub other_after : (j : ℕ) → j ≢ a → j ≢ k → (new j).after ≡ (old j).after
  pub other_before : (j : ℕ) → j ≢ b → j ≢ k → (new j).before ≡ (old j).before

-- the neighbours in the row, and in the column
abbrev pub in_row : List Node → ℕ → Neighbours
in_row nodes k = (node nodes k).row

abbrev pub in_column : List Node → ℕ → Neighbours
in_column nodes k = (node nodes k).column

-- two nodes became neighbours in their row, and nothing else changed
pub record IsJoinedInRow (old new : List Node) (left right : ℕ) : Type 0 where
  pub count : length new ≡ length old
  pub entries : (j : ℕ) → (node new j).entry ≡ (node old j).entry
  pub rows : IsJoined (in_row old) (in_row new) left right
  pub columns : (j : ℕ) → (node new j).column ≡ (node old j).column

-- and in their column
pub record IsJoinedInColumn (old new : List Node) (above below : ℕ) : Type 0 where
  pub count : length new ≡ length old
  pub entries : (j : ℕ) → (node new j).entry ≡ (node old j).entry
  pub rows : (j : ℕ) → (node new j).row ≡ (node old j).row
  pub columns : IsJoined (in_column old) (in_column new) above below

-- a node and its neighbours are there
pub record NamesNeighbours (nodes : List Node) (k : ℕ) : Type 0 where
  pub here : k < length nodes
  pub left : (in_row nodes k).before < length nodes
  pub right : (in_row nodes k).after < length nodes
  pub above : (in_column nodes k).before < length nodes
  pub below : (in_column nodes k).after < length nodes

-- and none of them is the node itself
pub record IsLinkable (nodes : List Node) (k : ℕ) : Type 0 where
  pub there : NamesNeighbours nodes k
  pub left : (in_row nodes k).before ≢ k
  pub right : (in_row nodes k).after ≢ k
  pub above : (in_column nodes k).before ≢ k
  pub below : (in_column nodes k).after ≢ k

-- a node came between the neighbours that it named
pub record IsLinkedIn (old new : List Node) (k : ℕ) : Type 0 where
  pub count : length new ≡ length old
  pub entries : (j : ℕ) → (node new j).entry ≡ (node old j).entry
  pub rows : IsInserted (in_row old) (in_row new) (in_row old k).before k (in_row old k).after
  pub columns : IsInserted (in_column old) (in_column new) (in_column old k).before k (in_column old k).after

-- the neighbours of a node became each other's
pub record IsLinkedOut (old new : List Node) (k : ℕ) : Type 0 where
  pub count : length new ≡ length old
  pub entries : (j : ℕ) → (node new j).entry ≡ (node old j).entry
  pub rows : IsJoined (in_row old) (in_row new) (in_row old k).before (in_row old k).after
  pub columns : IsJoined (in_column old) (in_column new) (in_column old k).before (in_column old k).after

-- A node of this entry and with these neighbours was written at an index, and nothing else; the list may have grown.
pub record IsPut (old new : List Node) (k : ℕ) (written : Node) : Type 0 where
  pub longer : length old ≤ length new
  pub within : k < length new
  pub there : node new k ≡ written
  pub others : (j : ℕ) → j ≢ k → node new j ≡ node old j

-- the slots of one node were written, and nothing else
pub record IsRevalued (old new : List Node) (k units : ℕ) : Type 0 where
  pub count : length new ≡ length old
  pub rows : (j : ℕ) → in_row new j ≡ in_row old j
  pub columns : (j : ℕ) → in_column new j ≡ in_column old j
  pub ups : (j : ℕ) → (node new j).entry.up ≡ (node old j).entry.up
  pub downs : (j : ℕ) → (node new j).entry.down ≡ (node old j).entry.down
  pub there : (node new k).entry.units ≡ units
  pub others : (j : ℕ) → j ≢ k → (node new j).entry.units ≡ (node old j).entry.units

-- the head of row and column of a beam, alone in both
abbrev pub head_of : ℕ → Node
head_of beam = record {
  entry = record { up = beam; down = beam; units = 0 };
  row = record { before = beam; after = beam };
  column = record { before = beam; after = beam };
}

-- one head for each beam
pub record AreHeads (nodes : List Node) (size : ℕ) : Type 0 where
  pub count : length nodes ≡ size
  pub each : (beam : ℕ) → beam < size → node nodes beam ≡ head_of beam
