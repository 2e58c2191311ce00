-- A matrix of such cells is bordered.
use Rattle.std.proofs.Common.{◌≡◌, ℕ, zero, suc, ◌+◌, ◌-◌, ◌*◌, ◌<◌, ◌≤◌, List, [], length, slice_index, subst, sym, ap, ◌∙◌, inl, inr, arith}
use Rattle.std.proofs.lemmas.Bool.{cases_lt}
use Rattle.std.proofs.lemmas.List.{get_or_past, get_or_default}
use Rattle.bt_frame.specs.declared.schedule.Critical.TheVariants.{Row, Column}
use Rattle.bt_matrix.specs.Traffic.{row_of, entry, row_sum, column_sum, IsTraffic}
use Rattle.bt_modes.specs.Matching.{HasLineSums}
use Rattle.bt_modes.specs.Padding.{HasLinesWithin}
use Rattle.bt_modes.proofs.Sums.{IsSquare, IsSquare-traffic, row_sum-total, column_sum-total, rows_are_columns}
use Rattle.bt_frame.proofs.Totals.{total}
use Rattle.bt_trans.specs.Border.{cut, row_wants, column_wants, AreCells, IsBordered}
use Rattle.bt_trans.specs.Part.{total_slots}
use Rattle.bt_trans.proofs.Totals.{total_slots-total}
use Rattle.bt_trans.proofs.Cells.{AreWants, AreCells-swap, upper_total, lower_total, total-past}

-- outside of the matrix nothing stands
pub entry-past_row : (rows : List (List ℕ)) (up down : ℕ) → length rows ≤ up → entry rows up down ≡ 0
entry-past_row rows up down past = ap (λ (row : List ℕ). slice_index row down) (get_or_past rows up [] past)

pub entry-past_column : (rows : List (List ℕ)) (up down : ℕ) → IsTraffic rows → length rows ≤ down → entry rows up down ≡ 0
entry-past_column rows up down is past = elim (cases_lt up (length rows)) [
  | inl inside ↦ get_or_past (row_of rows up) down 0 (let long : length (row_of rows up) ≡ length rows = is.square up [] inside in omega arith)
  | inr outside ↦ entry-past_row rows up down outside
]

-- every row of the bordered matrix
row_is : (rows new : List (List ℕ)) (border inner sum up : ℕ) → IsTraffic rows → IsSquare new (length rows + border) → HasLinesWithin rows sum
    → AreWants (length rows) border inner sum (row_wants rows sum) (column_wants rows sum)
    → AreCells (length rows) border inner sum (row_wants rows sum) (column_wants rows sum) (entry rows) (entry new)
    → up < length rows + border → row_sum new up ≡ sum
row_is rows new border inner sum up is square within wants cells below =
    let n = length rows in
    let all = row_sum-total new (n + border) up square below in
    elim (cases_lt up n) [
      | inl old ↦
          let cells_sum = upper_total n border inner sum (row_wants rows sum) (column_wants rows sum) (entry rows) (entry new) up wants cells old in
          let past = total-past n border (entry rows up) (λ t inside. entry-past_column rows up (n + t) is (omega arith)) in
          let own = row_sum-total rows n up (IsSquare-traffic rows is) old in
          let most : row_sum rows up ≤ sum = within (Row (record { 0 = up })) old in
          omega (arith, all, cells_sum, past, own, most)
      | inr fresh ↦ all ∙ lower_total n border inner sum (row_wants rows sum) (column_wants rows sum) (entry rows) (entry new) up wants cells fresh below
    ]

-- and every column
column_is : (rows new : List (List ℕ)) (border inner sum down : ℕ) → IsTraffic rows → IsSquare new (length rows + border) → HasLinesWithin rows sum
    → AreWants (length rows) border inner sum (row_wants rows sum) (column_wants rows sum)
    → AreCells (length rows) border inner sum (row_wants rows sum) (column_wants rows sum) (entry rows) (entry new)
    → down < length rows + border → column_sum new down ≡ sum
column_is rows new border inner sum down is square within wants cells below =
    let n = length rows in
    let all = column_sum-total new (n + border) down square in
    let swapped = AreCells-swap n border inner sum (row_wants rows sum) (column_wants rows sum) (entry rows) (entry new)
    (λ i j past. entry-past_row rows i j past) (λ i j past. entry-past_column rows i j is past) cells in
    let wants_swapped : AreWants n border inner sum (column_wants rows sum) (row_wants rows sum) = record { of_rows = wants.of_columns; of_columns = wants.of_rows } in
    elim (cases_lt down n) [
      | inl old ↦
          let cells_sum = upper_total n border inner sum (column_wants rows sum) (row_wants rows sum) (λ i j. entry rows j i) (λ i j. entry new j i) down wants_swapped swapped old in
          let past = total-past n border (λ up. entry rows up down) (λ t inside. entry-past_row rows (n + t) down (omega arith)) in
          let own = column_sum-total rows n down (IsSquare-traffic rows is) in
          let most : column_sum rows down ≤ sum = within (Column (record { 0 = down })) old in
          omega (arith, all, cells_sum, past, own, most)
      | inr fresh ↦ all ∙ lower_total n border inner sum (column_wants rows sum) (row_wants rows sum) (λ i j. entry rows j i) (λ i j. entry new j i) down wants_swapped swapped fresh below
    ]

-- so every line
lines_are : (rows new : List (List ℕ)) (border inner sum : ℕ) → IsTraffic rows → IsSquare new (length rows + border) → HasLinesWithin rows sum
    → AreWants (length rows) border inner sum (row_wants rows sum) (column_wants rows sum)
    → AreCells (length rows) border inner sum (row_wants rows sum) (column_wants rows sum) (entry rows) (entry new)
    → HasLineSums new sum
lines_are rows new border inner sum is square within wants cells (Row up) inside = row_is rows new border inner sum up.0 is square within wants cells (omega (arith, square.count))
lines_are rows new border inner sum is square within wants cells (Column down) inside = column_is rows new border inner sum down.0 is square within wants cells (omega (arith, square.count))

-- a matrix of such cells is bordered
pub IsBordered-cells : (rows new : List (List ℕ)) (k border inner sum : ℕ) → IsTraffic rows → IsSquare new (length rows + border) → border + k ≡ length rows
    → HasLinesWithin rows sum → AreWants (length rows) border inner sum (row_wants rows sum) (column_wants rows sum)
    → AreCells (length rows) border inner sum (row_wants rows sum) (column_wants rows sum) (entry rows) (entry new)
    → IsBordered rows new k sum
IsBordered-cells rows new k border inner sum is square sizes within wants cells = record {
  size = omega (arith, square.count, sizes);
  raised = λ up down in_rows in_columns. let at = cells.upper up down in_rows (omega arith) in omega (arith, at);
  corner = λ up down past_row past_column. elim (cases_lt up (length rows + border)) [
    | inl in_rows ↦ elim (cases_lt down (length rows + border)) [
      | inl in_columns ↦ cells.corner up down past_row in_rows past_column in_columns
      | inr outside ↦ get_or_past (row_of new up) down 0 (let long = square.long up in_rows in omega arith)
    ]
    | inr outside ↦ entry-past_row new up down (omega (arith, square.count))
  ];
  equal = lines_are rows new border inner sum is square within wants cells;
}

-- and it is a traffic matrix, if it is not too large
pub IsTraffic-cells : (rows new : List (List ℕ)) (border inner sum : ℕ) → IsTraffic rows → IsSquare new (length rows + border) → length rows + border ≤ 32 → sum ≤ 1048576
    → HasLinesWithin rows sum → AreWants (length rows) border inner sum (row_wants rows sum) (column_wants rows sum)
    → AreCells (length rows) border inner sum (row_wants rows sum) (column_wants rows sum) (entry rows) (entry new)
    → IsTraffic new
IsTraffic-cells rows new border inner sum is square few limit within wants cells = record {
  some_beams = omega (arith, square.count, is.some_beams);
  few_beams = omega (arith, square.count);
  square = λ up d inside. ap length (get_or_default new up d [] inside) ∙ (square.long up (omega (arith, square.count)) ∙ sym square.count);
  row_sums = λ up inside. let e = row_is rows new border inner sum up is square within wants cells (omega (arith, square.count)) in omega (arith, e);
  column_sums = λ down inside. let e = column_is rows new border inner sum down is square within wants cells (omega (arith, square.count)) in omega (arith, e);
}

-- what all rows want, and what all columns want
cut-wants : (n sum : ℕ) (has : ℕ → ℕ) → ((i : ℕ) → i < n → has i ≤ sum) → cut (λ i. sum - has i) n + total n has ≡ n * sum
cut-wants zero sum has within = omega arith
cut-wants (suc n) sum has within =
    let rest = cut-wants n sum has (λ i below. within i (omega arith)) in
    let last = within n (omega arith) in
    let times : suc n * sum ≡ n * sum + sum = grind arith in
    omega (arith, rest, last, times)

times_both : (a b s : ℕ) → (a + b) * s ≡ a * s + b * s
times_both a b s = grind arith

-- the wants fit
pub AreWants-total : (rows : List (List ℕ)) (k border inner sum : ℕ) → IsTraffic rows → HasLinesWithin rows sum → border + k ≡ length rows
    → inner + total_slots rows ≡ k * sum → AreWants (length rows) border inner sum (row_wants rows sum) (column_wants rows sum)
AreWants-total rows k border inner sum is within sizes all =
    let n = length rows in
    let square = IsSquare-traffic rows is in
    let by_rows = total_slots-total rows in
    let by_columns = rows_are_columns rows n square in
    let of_rows = cut-wants n sum (row_sum rows) (λ up inside. within (Row (record { 0 = up })) inside) in
    let of_columns = cut-wants n sum (column_sum rows) (λ down inside. within (Column (record { 0 = down })) inside) in
    let split : n * sum ≡ border * sum + k * sum = rw (← sizes) (times_both border k sum) in
    record { of_rows = omega (arith, by_rows, of_rows, split, all); of_columns = omega (arith, by_rows, by_columns, of_columns, split, all) }

-- all that a bordered matrix is
pub record IsBorderedWhole (rows new : List (List ℕ)) (k sum : ℕ) : Type 0 where
  pub traffic : IsTraffic new
  pub bordered : IsBordered rows new k sum

pub IsBorderedWhole-cells : (rows new : List (List ℕ)) (k lines inner sum : ℕ) → IsTraffic rows → HasLinesWithin rows sum → k ≤ length rows → lines + k ≡ length rows + length rows
    → lines ≤ 32 → sum ≤ 1048576 → inner + total_slots rows ≡ k * sum → IsSquare new lines
    → AreCells (length rows) (lines - length rows) inner sum (row_wants rows sum) (column_wants rows sum) (entry rows) (entry new)
    → IsBorderedWhole rows new k sum
IsBorderedWhole-cells rows new k lines inner sum is within fits sizes few limit all square cells =
    let border = lines - length rows in
    let split : lines ≡ length rows + border = omega arith in
    let rest : border + k ≡ length rows = omega arith in
    let wide : IsSquare new (length rows + border) = subst (IsSquare new) split square in
    let wants = AreWants-total rows k border inner sum is within rest all in
    record {
      traffic = IsTraffic-cells rows new border inner sum is wide (omega arith) limit within wants cells;
      bordered = IsBordered-cells rows new k border inner sum is wide rest within wants cells;
    }
