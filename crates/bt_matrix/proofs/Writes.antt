-- What one write to a matrix leaves of the sums that are kept beside it.
use Rattle.std.proofs.Common.{◌≡◌, ◌≢◌, ℕ, ◌+◌, ◌<◌, ◌≤◌, List, [], Vec, Global, length, map, get_or, slice_index, slice_set, sym, ap, ◌∙◌, arith, ⊎_elim, subst, length-set, get_or-set_same, get_or-set_other}
use Rattle.std.proofs.lemmas.Bool.{cases_eq}
use Rattle.std.proofs.lemmas.List.{map-set, get_or_read}
use Rattle.std.proofs.lemmas.List.Elements.{All-set}
use Rattle.bt_matrix.specs.Traffic.{row_of, entry, row_sum, column_sum, with_entry, IsTraffic}
use Rattle.bt_matrix.specs.Dense.{KeepsSums}
use Rattle.bt_matrix.proofs.Lines.{length-lists, row_of-map, vec_len-row, row_sum-with_entry_same, row_sum-with_entry_other, column_sum-with_entry_same, column_sum-with_entry_other}

-- the entry that was written
pub entry-with_entry_same : (rows : List (List ℕ)) (up down n : ℕ) → up < length rows → down < length (row_of rows up)
    → entry (with_entry rows up down n) up down ≡ n
entry-with_entry_same rows up down n in_rows in_row =
    ap (λ (row : List ℕ). slice_index row down) (get_or-set_same rows up (slice_set (row_of rows up) down n) [] in_rows)
    ∙ get_or-set_same (row_of rows up) down n 0 in_row

-- a row is as long as the matrix
pub length-row : (rows : List (List ℕ)) (up : ℕ) → IsTraffic rows → up < length rows → length (row_of rows up) ≡ length rows
length-row rows up is within = is.square up [] within

-- A list of sums of which one place was written anew: it holds the new sums, if the others are as they were.
slice_index-set : (sums : List ℕ) (old new : ℕ → ℕ) (size at sum : ℕ) → at < length sums → sum ≡ new at
    → ((k : ℕ) → k ≢ at → new k ≡ old k) → ((k : ℕ) → k < size → slice_index sums k ≡ old k)
    → (k : ℕ) → k < size → slice_index (slice_set sums at sum) k ≡ new k
slice_index-set sums old new size at sum within is others kept k below = ⊎_elim
    (λ (here : k ≡ at). subst (λ (j : ℕ). slice_index (slice_set sums at sum) j ≡ new j) (sym here) (get_or-set_same sums at sum 0 within ∙ is))
    (λ (other : k ≡ at → ⊥). get_or-set_other sums at k sum 0 other ∙ (kept k below ∙ sym (others k other)))
    (cases_eq k at)

-- a bound on every sum holds on, if the one that changed is within it
within-others : (old new : ℕ → ℕ) (size at most : ℕ) → new at ≤ most → ((k : ℕ) → k ≢ at → new k ≡ old k)
    → ((k : ℕ) → k < size → old k ≤ most) → (k : ℕ) → k < size → new k ≤ most
within-others old new size at most here others kept k below = ⊎_elim
    (λ (e : k ≡ at). subst (λ (j : ℕ). new j ≤ most) (sym e) here)
    (λ (other : k ≡ at → ⊥). rw (others k other) (kept k below))
    (cases_eq k at)

-- a matrix stays one, if both sums are within the limit
pub IsTraffic-with_entry : (rows : List (List ℕ)) (up down n : ℕ) → IsTraffic rows → up < length rows → down < length rows
    → row_sum (with_entry rows up down n) up ≤ 1048576 → column_sum (with_entry rows up down n) down ≤ 1048576
    → IsTraffic (with_entry rows up down n)
IsTraffic-with_entry rows up down n is in_rows in_columns row column =
    let long = length-row rows up is in_rows in
    let written = slice_set (row_of rows up) down n in
    let size : length (with_entry rows up down n) ≡ length rows = length-set rows up written in
    record {
      some_beams = rw size is.some_beams;
      few_beams = rw size is.few_beams;
      square = λ k d within.
          let square = All-set (λ (row : List ℕ). length row ≡ length rows) rows up written (length-set (row_of rows up) down n ∙ long) is.square in
          square k d within ∙ sym size;
      row_sums = rw size (within-others (row_sum rows) (row_sum (with_entry rows up down n)) (length rows) up 1048576 row
          (row_sum-with_entry_other rows up down n) is.row_sums);
      column_sums = rw size (within-others (column_sum rows) (column_sum (with_entry rows up down n)) (length rows) down 1048576 column
          (λ k other. column_sum-with_entry_other rows up down n k in_rows other) is.column_sums);
    }

-- the sums are kept by a write that gives its row and its column their new sums
pub KeepsSums-with_entry : (rows : List (List ℕ)) (row_sums column_sums : List ℕ) (up down n row column : ℕ)
    → KeepsSums rows row_sums column_sums → up < length rows → down < length rows → length row_sums ≡ 32 → length column_sums ≡ 32
    → row + entry rows up down ≡ row_sum rows up + n → column + entry rows up down ≡ column_sum rows down + n
    → row ≤ 1048576 → column ≤ 1048576
    → KeepsSums (with_entry rows up down n) (slice_set row_sums up row) (slice_set column_sums down column)
KeepsSums-with_entry rows row_sums column_sums up down n row column keeps in_rows in_columns sixteen_rows sixteen_columns row_gives column_gives row_fits column_fits =
    let in_row : down < length (row_of rows up) = omega (arith, length-row rows up keeps.traffic in_rows) in
    let row_is : row ≡ row_sum (with_entry rows up down n) up = omega (arith, row_sum-with_entry_same rows up down n in_rows in_row) in
    let column_is : column ≡ column_sum (with_entry rows up down n) down = omega (arith, column_sum-with_entry_same rows up down n in_rows in_row) in
    let size : length (with_entry rows up down n) ≡ length rows = length-set rows up (slice_set (row_of rows up) down n) in
    record {
      traffic = IsTraffic-with_entry rows up down n keeps.traffic in_rows in_columns (rw (← row_is) row_fits) (rw (← column_is) column_fits);
      of_rows = rw size (slice_index-set row_sums (row_sum rows) (row_sum (with_entry rows up down n)) (length rows) up row
          (omega (arith, keeps.traffic.few_beams)) row_is (row_sum-with_entry_other rows up down n) keeps.of_rows);
      of_columns = rw size (slice_index-set column_sums (column_sum rows) (column_sum (with_entry rows up down n)) (length rows) down column
          (omega (arith, keeps.traffic.few_beams)) column_is (λ k other. column_sum-with_entry_other rows up down n k in_rows other) keeps.of_columns);
    }

-- the view of the rows, once the vector at a place was replaced by itself with one number changed
pub lists-set : (rows : List (Vec ℕ Global)) (up down n : ℕ) (old new : Vec ℕ Global) → up < length rows → old ≡ get_or rows up old
    → new.items ≡ slice_set old.items down n → map (λ row. row.items) (slice_set rows up new) ≡ with_entry (map (λ row. row.items) rows) up down n
lists-set rows up down n old new within is changed =
    let row_is : row_of (map (λ row. row.items) rows) up ≡ old.items =
    row_of-map rows up old within ∙ sym (ap (λ (r : Vec ℕ Global). r.items) is) in
    map-set (λ (r : Vec ℕ Global). r.items) rows up new
    ∙ ap (slice_set (map (λ row. row.items) rows) up) (changed ∙ ap (λ (xs : List ℕ). slice_set xs down n) (sym row_is))

-- the number at a place of the vector at a place
pub entry-lists : (rows : List (Vec ℕ Global)) (up down : ℕ) (row : Vec ℕ Global) (units : ℕ) → IsTraffic (map (λ row. row.items) rows)
    → up < length rows → down < length rows → row ≡ get_or rows up row → units ≡ get_or row.items down units
    → entry (map (λ row. row.items) rows) up down ≡ units
entry-lists rows up down row units is in_rows in_columns row_is units_is =
    let item_is = ap (λ (r : Vec ℕ Global). r.items) row_is in
    let long : down < length row.items = omega (arith, ap length item_is, vec_len-row rows up row is in_rows) in
    ap (λ (xs : List ℕ). slice_index xs down) (row_of-map rows up row in_rows ∙ sym item_is) ∙ sym (get_or_read row.items down units long units_is 0)

-- What a write of n leaves in a row of the vectors, with the sums of the row and the column beside it. At the place stood `units`.
pub record IsWritten (rows : List (Vec ℕ Global)) (row_sums column_sums : List ℕ) (up down n row column units : ℕ) (new : Vec ℕ Global) : Type 0 where
  pub was : entry (map (λ row. row.items) rows) up down ≡ units
  pub view : map (λ row. row.items) (slice_set rows up new) ≡ with_entry (map (λ row. row.items) rows) up down n
  pub sums : KeepsSums (map (λ row. row.items) (slice_set rows up new)) (slice_set row_sums up row) (slice_set column_sums down column)

-- by the vector of the row before, and by its number at the place
pub IsWritten-set : (rows : List (Vec ℕ Global)) (row_sums column_sums : List ℕ) (up down n row column units : ℕ) (old new : Vec ℕ Global)
    → KeepsSums (map (λ row. row.items) rows) row_sums column_sums → up < length rows → down < length rows
    → length row_sums ≡ 32 × length column_sums ≡ 32 → old ≡ get_or rows up old → units ≡ get_or old.items down units
    → new.items ≡ slice_set old.items down n → row + units ≡ slice_index row_sums up + n → column + units ≡ slice_index column_sums down + n
    → row ≤ 1048576 → column ≤ 1048576 → IsWritten rows row_sums column_sums up down n row column units new
IsWritten-set rows row_sums column_sums up down n row column units old new keeps in_rows in_columns sixteen old_is units_is new_is row_gives column_gives row_fits column_fits =
    let lists = map (λ (row : Vec ℕ Global). row.items) rows in
    let view_is = lists-set rows up down n old new in_rows old_is new_is in
    let entry_is = entry-lists rows up down old units keeps.traffic in_rows in_columns old_is units_is in
    let up_in : up < length lists = omega (arith, length-lists rows) in
    let down_in : down < length lists = omega (arith, length-lists rows) in
    record {
      was = entry_is;
      view = view_is;
      sums = rw view_is (KeepsSums-with_entry lists row_sums column_sums up down n row column keeps up_in down_in sixteen.0 sixteen.1
          (omega (arith, entry_is, keeps.of_rows up up_in)) (omega (arith, entry_is, keeps.of_columns down down_in)) row_fits column_fits);
    }
