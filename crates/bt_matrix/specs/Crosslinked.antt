-- What a matrix of linked nodes keeps.
use Rattle.std.specs.Prelude.{◌≡◌, ◌≢◌, ℕ, ◌+◌, ◌<◌, ◌≤◌, List, Option, Some, length, All, AllPairs}
use Rattle.std.specs.List.{Contains}
use Rattle.bt_matrix.specs.Dense.{KeepsSums}
use Rattle.bt_matrix.specs.declared.node.Node.{Node}
use Rattle.bt_matrix.specs.Links.{node, nodes_of, in_row, in_column, Runs}
use Rattle.bt_matrix.specs.Table.{line_of, column_of, place, rows_of, used}

-- a node is the one of an entry, and no head of a line
pub record IsNamed (nodes : List Node) (size up down k : ℕ) : Type 0 where
  pub past_heads : size ≤ k
  pub within : k < length nodes
  pub at_up : (node nodes k).entry.up ≡ up
  pub at_down : (node nodes k).entry.down ≡ down
  pub positive : 0 < (node nodes k).entry.units

-- The first nodes are heads, the head of row and column b is node b. The table names a node for each positive entry.
-- From a row's head the right links run through the nodes of the row, by ascending column, back to the head, and the
-- left links run back; the same holds of columns.
pub record KeepsLinks (nodes : List Node) (table : List (List (Option ℕ))) : Type 0 where
  pub square : All (λ line. length line ≡ length table) table
  pub heads : length table ≤ length nodes
  pub head_up : (b : ℕ) → b < length table → (node nodes b).entry.up ≡ b
  pub head_down : (b : ℕ) → b < length table → (node nodes b).entry.down ≡ b
  pub named : (up down k : ℕ) → place table up down ≡ Some k → IsNamed nodes (length table) up down k
  pub rows : (up : ℕ) → up < length table → Runs (in_row nodes) up (nodes_of (line_of table up)) up
  pub columns : (down : ℕ) → down < length table → Runs (in_column nodes) down (nodes_of (column_of table down)) down

-- the table names this node at the node's own place
abbrev pub InUse : List Node → List (List (Option ℕ)) → ℕ → Type 0
InUse nodes table k = place table (node nodes k).entry.up (node nodes k).entry.down ≡ Some k

-- a node that is no head and that the table does not name
pub record IsFree (nodes : List Node) (table : List (List (Option ℕ))) (k : ℕ) : Type 0 where
  pub past_heads : length table ≤ k
  pub within : k < length nodes
  pub unused : InUse nodes table k → ⊥

-- each node that is neither a head nor named stands in the free list once
pub record KeepsFree (nodes : List Node) (table : List (List (Option ℕ))) (free : List ℕ) : Type 0 where
  pub unused : All (IsFree nodes table) free
  pub once : AllPairs (λ j k. j ≢ k) free
  pub each : (k : ℕ) → IsFree nodes table k → Contains free k
  pub count : length table + used table + length free ≡ length nodes

-- all that is kept of nodes, table, free list and sums
pub record IsCrosslinked (nodes : List Node) (table : List (List (Option ℕ))) (free row_sums column_sums : List ℕ) : Type 0 where
  pub links : KeepsLinks nodes table
  pub listed : KeepsFree nodes table free
  pub sums : KeepsSums (rows_of nodes table) row_sums column_sums
