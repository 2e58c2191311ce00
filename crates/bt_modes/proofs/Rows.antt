-- The line sums of a list of rows as sums over numbers, and the search in such a matrix.
use Rattle.std.proofs.Common.{◌≡◌, ℕ, ◌<◌, ◌≤◌, Bool, true, false, List, [], length, Option, Some, None, get_or, take, replicate, sum, sym, ap, ◌∙◌, inl, inr, arith}
use Rattle.std.proofs.lemmas.Bool.{cases_lt, false≢true}
use Rattle.std.proofs.lemmas.List.{get_or_past, get_or-take, get_or-replicate, length-take-le}
use Rattle.bt_frame.specs.declared.limits.TheConstants.{MOST_BEAMS}
use Rattle.bt_frame.specs.declared.schedule.Critical.TheVariants.{Row, Column}
use Rattle.bt_matrix.specs.Traffic.{entry, row_of, IsTraffic}
use Rattle.bt_modes.specs.Matching.{column_of, HasOwnColumns, HasEqualLineSums}
use Rattle.bt_modes.specs.Search.{is_visited, IsSpent, HasSpentRow, IsExplored}
use Rattle.bt_frame.proofs.Totals.{total, sum_by-total}
use Rattle.bt_modes.proofs.Counting.{IsReached, search_finds}

-- a row's sum, by columns
row_total : (rows : List (List ℕ)) (slots row : ℕ) → IsTraffic rows → ((up : ℕ) → up < length rows → sum (row_of rows up) ≡ slots)
    → row < length rows → total (length rows) (λ down. entry rows row down) ≡ slots
row_total rows slots row traffic sums inside =
    let all : sum (row_of rows row) ≡ total (length (row_of rows row)) (λ down. entry rows row down) = sum_by-total (λ x. x) (row_of rows row) 0 in
    let long : length (row_of rows row) ≡ length rows = traffic.square row [] inside in
    ap (λ (n : ℕ). total n (λ down. entry rows row down)) (sym long) ∙ sym all ∙ sums row inside

-- a row that has a column is one of the rows
has_inside : (columns : List (Option ℕ)) (row down : ℕ) → column_of columns row ≡ Some down → row < length columns
has_inside columns row down has =
    elim (cases_lt row (length columns)) [
      | inl inside ↦ inside
      | inr past ↦ absurd (let none : column_of columns row ≡ None = get_or_past columns row None past in cc)
    ]

-- a visited column belongs to a row that is spent, where none was visited before
spent_row : (rows : List (List ℕ)) (columns : List (Option ℕ)) (before visited : List Bool) (down : ℕ)
    → ((down : ℕ) → is_visited before down ≡ false) → IsExplored 0 rows columns before visited
    → is_visited visited down ≡ true → HasSpentRow 0 rows columns visited down
spent_row rows columns before visited down fresh explored seen =
    elim (explored down seen) [
      | inl early ↦ absurd (false≢true (sym (fresh down) ∙ early))
      | inr found ↦ found
    ]

-- a row that was reached is spent
reached_spent : (rows : List (List ℕ)) (columns : List (Option ℕ)) (visited : List Bool) (free row : ℕ)
    → HasOwnColumns columns → IsSpent 0 rows visited free
    → ((down : ℕ) → is_visited visited down ≡ true → HasSpentRow 0 rows columns visited down)
    → IsReached (is_visited visited) (column_of columns row) free row → IsSpent 0 rows visited row
reached_spent rows columns visited free row own spent held reached =
    elim reached [
      | inl same ↦ rw same spent
      | inr (down, has, seen) ↦
          let (other, had, done) = held down seen in
          rw (own row other down has had) done
    ]

-- Where all line sums are equal and positive, a search from a row without a column cannot end without one.
pub search_succeeds :
    (rows : List (List ℕ)) (columns : List (Option ℕ)) (before visited : List Bool) (free : ℕ)
    → IsTraffic rows → HasEqualLineSums rows
    → length columns ≡ length rows → HasOwnColumns columns
    → free < length rows → column_of columns free ≡ None
    → ((down : ℕ) → is_visited before down ≡ false)
    → IsSpent 0 rows visited free → IsExplored 0 rows columns before visited
    → ⊥
search_succeeds rows columns before visited free traffic equal long own inside none fresh spent explored =
    let held : (down : ℕ) → is_visited visited down ≡ true → HasSpentRow 0 rows columns visited down =
    λ down seen. spent_row rows columns before visited down fresh explored seen in
    search_finds (length rows) equal.slots free (entry rows) (column_of columns) (is_visited visited) equal.positive
    (λ row below. row_total rows equal.slots row traffic (λ up known. equal.lines (Row (record { 0 = up })) known) below)
    (λ down below. sym (sum_by-total (λ row. get_or row down 0) rows []) ∙ equal.lines (Column (record { 0 = down })) below)
    inside none
    (λ down below seen.
    let (row, has, _) = held down seen in
    (row, let within : row < length columns = has_inside columns row down has in omega arith, has))
    (λ row below reached down within positive. reached_spent rows columns visited free row own spent held reached down positive)

-- at first no column is visited
pub none_visited : (size : ℕ) → size ≤ MOST_BEAMS → (down : ℕ) → is_visited (take size (replicate MOST_BEAMS false)) down ≡ false
none_visited size few down =
    elim (cases_lt down size) [
      | inl below ↦ get_or-take size (replicate MOST_BEAMS false) down false below ∙ get_or-replicate MOST_BEAMS down false false (omega arith)
      | inr above ↦ get_or_past (take size (replicate MOST_BEAMS false)) down false (omega (arith, length-take-le {A = Bool} size (replicate MOST_BEAMS false)))
    ]
