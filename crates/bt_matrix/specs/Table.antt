-- A table of places, one list for each uplink beam: at each place stands the node of that entry, or none.
use Rattle.std.specs.Prelude.{ℕ, List, [], Option, None, Some, suc, take, drop, map, length, sum_by, slice_set}
use Rattle.std.specs.List.{slice_index_or}
use Rattle.bt_matrix.specs.declared.node.Node.{Node}
use Rattle.bt_matrix.specs.Links.{node, nodes_of, first_or, last_or}

-- the places of an uplink beam
abbrev pub line_of : List (List (Option ℕ)) → ℕ → List (Option ℕ)
line_of table up = slice_index_or table up []

-- the places of a downlink beam
abbrev pub column_of : List (List (Option ℕ)) → ℕ → List (Option ℕ)
column_of table down = map (λ line. slice_index_or line down None) table

-- the node of an entry, or none
abbrev pub place : List (List (Option ℕ)) → ℕ → ℕ → Option ℕ
place table up down = slice_index_or (line_of table up) down None

-- the table with another node at one place
abbrev pub with_place : List (List (Option ℕ)) → ℕ → ℕ → Option ℕ → List (List (Option ℕ))
with_place table up down at = slice_set table up (slice_set (line_of table up) down at)

-- the slots of a place
abbrev pub units_in : List Node → Option ℕ → ℕ
units_in nodes None = 0
units_in nodes (Some k) = (node nodes k).entry.units

-- the matrix that the table and the nodes are
abbrev pub rows_of : List Node → List (List (Option ℕ)) → List (List ℕ)
rows_of nodes table = map (λ line. map (units_in nodes) line) table

-- how many nodes the table names
abbrev pub used : List (List (Option ℕ)) → ℕ
used table = sum_by (λ line. length (nodes_of line)) table

-- the nodes around a place that has none
abbrev pub before_place : List (Option ℕ) → ℕ → ℕ → ℕ
before_place line i head = last_or head (nodes_of (take i line))

abbrev pub after_place : List (Option ℕ) → ℕ → ℕ → ℕ
after_place line i head = first_or (nodes_of (drop (suc i) line)) head

-- the node that comes in at a place, by its slots and its neighbours
abbrev pub new_node : List (List (Option ℕ)) → ℕ → ℕ → ℕ → Node
new_node table up down units = record {
  entry = record { up = up; down = down; units = units };
  row = record { before = before_place (line_of table up) down up; after = after_place (line_of table up) down up };
  column = record { before = before_place (column_of table down) up down; after = after_place (column_of table down) up down };
}
