-- The entries of a matrix in a table.
use Rattle.std.proofs.Common.{◌≡◌, ℕ, ◌+◌, ◌<◌, ◌≤◌, Bool, List, [], length, Option, replicate, ap, ◌∙◌, inl, inr, arith}
use Rattle.std.specs.List.{slice_index, count_by}
use Rattle.std.proofs.lemmas.Bool.{cases_lt}
use Rattle.std.proofs.lemmas.List.{get_or_past, get_or-replicate, length-replicate}
use Rattle.bt_frame.specs.declared.limits.TheConstants.{MOST_BEAMS}
use Rattle.bt_frame.proofs.Totals.{total, sum_by-total}
use Rattle.bt_matrix.specs.Traffic.{entry, IsTraffic}
use Rattle.bt_matrix.specs.Walk.{is_positive, row_entries, positive_entries}
use Rattle.bt_matrix.proofs.Walks.{entry-past}
use Rattle.bt_modes.specs.Matching.{IsPartial}
use Rattle.bt_modes.specs.Search.{HasEntriesOf, HasNoEntry, IsWithin, IsMatching, IsSpent, IsExplored}

-- The first rows of the matrix stand in the table of so many rows, and nothing in the others.
pub record IsTableTo (size : ℕ) (rows table : List (List ℕ)) (count steps first : ℕ) : Type 0 where
  pub long : length table ≡ size
  pub so_far : (up down : ℕ) → up < count → entry table up down ≡ entry rows up down
  pub later : (up down : ℕ) → count ≤ up → entry table up down ≡ 0
  pub looks : steps ≤ first + total count (row_entries rows)

-- a row of zeros
pub zeros : (n k : ℕ) → slice_index (replicate n 0) k ≡ 0
zeros n k =
    elim (cases_lt k n) [
      | inl below ↦ get_or-replicate n k 0 0 below
      | inr past ↦ get_or_past (replicate n 0) k 0 (rw (length-replicate {A = ℕ}) past)
    ]

-- a table of zeros
pub zero_table : (n m : ℕ) → HasNoEntry (replicate n (replicate m 0))
zero_table n m up down =
    elim (cases_lt up n) [
      | inl below ↦ ap (λ (r : List ℕ). slice_index r down) (get_or-replicate n up (replicate m 0) [] below) ∙ zeros m down
      | inr past ↦ ap (λ (r : List ℕ). slice_index r down) (get_or_past (replicate n (replicate m 0)) up [] (rw (length-replicate {A = List ℕ}) past))
    ]

-- and each positive entry was looked at once
pub looks-all : (size : ℕ) (rows table : List (List ℕ)) (steps first : ℕ) → IsTableTo size rows table (length rows) steps first → steps ≤ first + positive_entries rows
looks-all size rows table steps first all =
    let whole : positive_entries rows ≡ total (length rows) (row_entries rows) = sum_by-total (λ (row : List ℕ). count_by is_positive row) rows [] in
    omega (arith, all.looks)

-- what is spent in the table is spent in a matrix that has no positive entry elsewhere
pub IsSpent-support : (rows table : List (List ℕ)) (visited : List Bool) (row : ℕ) → ((up down : ℕ) → 0 < entry rows up down → 0 < entry table up down)
    → IsSpent 0 table visited row → IsSpent 0 rows visited row
IsSpent-support rows table visited row inside spent = λ down positive. spent down (inside row down positive)

pub IsExplored-support : (rows table : List (List ℕ)) (columns : List (Option ℕ)) (before after : List Bool) → ((up down : ℕ) → 0 < entry rows up down → 0 < entry table up down)
    → IsExplored 0 table columns before after → IsExplored 0 rows columns before after
IsExplored-support rows table columns before after inside explored = λ down seen. elim (explored down seen) [
  | inl early ↦ inl early
  | inr (row, has, spent) ↦ inr (row, has, IsSpent-support rows table after row inside spent)
]

-- the table has no positive entry past the matrix
pub IsWithin-table : (rows table : List (List ℕ)) (size : ℕ) → HasEntriesOf table rows → IsTraffic rows → size ≡ length rows → IsWithin table size
IsWithin-table rows table size same traffic is up down positive =
    let inside : down < length rows = entry-past rows up down traffic.square (rw (← same up down) positive) in
    omega arith

-- rows with columns of their own at positive entries of the table
pub IsPartial-within : (table : List (List ℕ)) (columns : List (Option ℕ)) → 1 ≤ length columns → length columns ≤ MOST_BEAMS → IsWithin table (length columns)
    → IsMatching table columns → IsPartial columns
IsPartial-within table columns some few within matching = record {
  some_rows = some;
  few_rows = few;
  below_size = λ row down has. within row down (matching.inside row down has);
  own_columns = matching.own_columns;
}
