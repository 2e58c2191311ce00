-- What a search for the column of a free row may change, and what it knows of the columns that it has visited.
use Rattle.std.specs.Prelude.{◌≡◌, ◌≢◌, ◌⊎◌, ℕ, ◌<◌, Bool, true, false, not, List, Option, Some, IsSome, count_by, slice_index}
use Rattle.std.specs.List.{slice_index_or}
use Rattle.bt_matrix.specs.Traffic.{entry}
use Rattle.bt_modes.specs.Matching.{column_of, HasOwnColumns, IsInside}

-- rows with columns of their own, at positive entries
pub record IsMatching (rows : List (List ℕ)) (columns : List (Option ℕ)) : Type 0 where
  pub inside : IsInside rows columns
  pub own_columns : HasOwnColumns columns

-- each column that a row has is listed with that row
abbrev pub AreHolders : List (Option ℕ) → List ℕ → Type 0
AreHolders columns holders = (row down : ℕ) → column_of columns row ≡ Some down → slice_index holders down ≡ row

-- the search has come to that column
abbrev pub is_visited : List Bool → ℕ → Bool
is_visited visited down = slice_index_or visited down false

-- how many columns the search has not come to
abbrev pub unvisited : List Bool → ℕ
unvisited visited = count_by not visited

-- no visited column is forgotten
abbrev pub StaysVisited : List Bool → List Bool → Type 0
StaysVisited before after = (down : ℕ) → is_visited before down ≡ true → is_visited after down ≡ true

-- every entry of the row above this number is in a visited column
abbrev pub IsSpent : ℕ → List (List ℕ) → List Bool → ℕ → Type 0
IsSpent above rows visited row = (down : ℕ) → above < entry rows row down → is_visited visited down ≡ true

-- some row has that column, and every entry of that row above this number is in a visited column
abbrev pub HasSpentRow : ℕ → List (List ℕ) → List (Option ℕ) → List Bool → ℕ → Type 0
HasSpentRow above rows columns visited down = (row : ℕ) × (column_of columns row ≡ Some down) × IsSpent above rows visited row

-- every column that was newly visited belongs to a row that is spent
abbrev pub IsExplored : ℕ → List (List ℕ) → List (Option ℕ) → List Bool → List Bool → Type 0
IsExplored above rows columns before after =
    (down : ℕ) → is_visited after down ≡ true → (is_visited before down ≡ true) ⊎ HasSpentRow above rows columns after down

-- every row that had a column has one
abbrev pub StaysMatched : List (Option ℕ) → List (Option ℕ) → Type 0
StaysMatched before after = (row : ℕ) → IsSome (column_of before row) → IsSome (column_of after row)

-- a row has the column that it had, or one that had not been visited
abbrev pub MovesToUnvisited : List Bool → List (Option ℕ) → List (Option ℕ) → Type 0
MovesToUnvisited visited before after =
    (row down : ℕ) → column_of after row ≡ Some down → (column_of before row ≡ Some down) ⊎ (is_visited visited down ≡ false)

-- the row has a column that had not been visited
abbrev pub HasUnvisited : List Bool → List (Option ℕ) → ℕ → Type 0
HasUnvisited visited columns row = (down : ℕ) × (column_of columns row ≡ Some down) × (is_visited visited down ≡ false)

-- no row has that column
abbrev pub IsFreeColumn : List (Option ℕ) → ℕ → Type 0
IsFreeColumn columns down = (row : ℕ) → column_of columns row ≢ Some down

-- nothing stands in the table
abbrev pub HasNoEntry : List (List ℕ) → Type 0
HasNoEntry table = (up down : ℕ) → entry table up down ≡ 0

-- the table has the entries of the matrix
abbrev pub HasEntriesOf : List (List ℕ) → List (List ℕ) → Type 0
HasEntriesOf table rows = (up down : ℕ) → entry table up down ≡ entry rows up down

-- no entry past so many columns is positive
abbrev pub IsWithin : List (List ℕ) → ℕ → Type 0
IsWithin table size = (up down : ℕ) → 0 < entry table up down → down < size
