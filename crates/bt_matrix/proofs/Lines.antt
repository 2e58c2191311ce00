-- The lines of a matrix: as the vectors of its rows give them, of a matrix of zeros, and after one entry was changed.
use Rattle.std.proofs.Common.{below_more, ◌≡◌, ◌≢◌, ℕ, ◌+◌, ◌<◌, ◌≤◌, List, [], Vec, Global, length, map, replicate, sum, sum_by, get_or, slice_index, slice_set, sym, ap, ◌∙◌, arith, length-set, get_or-set_same, get_or-set_other}
use Rattle.std.proofs.lemmas.List.{get_or-map, length-map, get_or-replicate, length-replicate}
use Rattle.std.proofs.lemmas.List.Elements.{All-replicate}
use Rattle.std.proofs.lemmas.List.Folds.{sum_by-replicate}
use Rattle.std.proofs.lemmas.List.Sums.{sum_by-set, get_or-le-sum_by}
use Rattle.bt_frame.proofs.Counts.{sum_by-map}
use Rattle.bt_matrix.specs.Traffic.{row_of, entry, row_sum, column_sum, with_entry, IsTraffic}

-- the row at a place is the list of the vector there
pub row_of-map : (rows : List (Vec ℕ Global)) (up : ℕ) (d : Vec ℕ Global) → up < length rows
    → row_of (map (λ row. row.items) rows) up ≡ (get_or rows up d).items
row_of-map rows up d within = get_or-map (λ (row : Vec ℕ Global). row.items) rows up d [] within

-- the changed entry's row
pub row_sum-with_entry_same : (rows : List (List ℕ)) (up down n : ℕ) → up < length rows → down < length (row_of rows up)
    → row_sum (with_entry rows up down n) up + entry rows up down ≡ row_sum rows up + n
row_sum-with_entry_same rows up down n in_rows in_row =
    rw (get_or-set_same rows up (slice_set (row_of rows up) down n) []) (sum_by-set (λ x. x) (row_of rows up) down n 0 in_row)

-- another row
pub row_sum-with_entry_other : (rows : List (List ℕ)) (up down n k : ℕ) → k ≢ up
    → row_sum (with_entry rows up down n) k ≡ row_sum rows k
row_sum-with_entry_other rows up down n k other = ap sum (get_or-set_other rows up k (slice_set (row_of rows up) down n) [] other)

-- the changed entry's column
pub column_sum-with_entry_same : (rows : List (List ℕ)) (up down n : ℕ) → up < length rows → down < length (row_of rows up)
    → column_sum (with_entry rows up down n) down + entry rows up down ≡ column_sum rows down + n
column_sum-with_entry_same rows up down n in_rows in_row =
    let changed = sum_by-set (λ (row : List ℕ). slice_index row down) rows up (slice_set (row_of rows up) down n) [] in_rows in
    let here = get_or-set_same (row_of rows up) down n 0 in_row in
    changed ∙ ap (λ (x : ℕ). column_sum rows down + x) here

-- another column
pub column_sum-with_entry_other : (rows : List (List ℕ)) (up down n k : ℕ) → up < length rows → k ≢ down
    → column_sum (with_entry rows up down n) k ≡ column_sum rows k
column_sum-with_entry_other rows up down n k in_rows other =
    let changed = sum_by-set (λ (row : List ℕ). slice_index row k) rows up (slice_set (row_of rows up) down n) [] in_rows in
    let here = get_or-set_other (row_of rows up) down k n 0 other in
    omega (arith, changed, here)

-- sixteen places, of which so many hold what a function gives there
pub record IsFilled (f : ℕ → ℕ) (xs : List ℕ) (count : ℕ) : Type 0 where
  pub long : length xs ≡ 32
  pub so_far : (k : ℕ) → k < count → slice_index xs k ≡ f k

-- one more place is filled
pub IsFilled-set : (f : ℕ → ℕ) (xs : List ℕ) (i x : ℕ) → i < 32 → x ≡ f i → IsFilled f xs i → IsFilled f (slice_set xs i x) (i + 1)
IsFilled-set f xs i x below is filled = record {
  long = length-set xs i x ∙ filled.long;
  so_far = below_more (λ (k : ℕ). slice_index (slice_set xs i x) k ≡ f k) i
      (λ k earlier. get_or-set_other xs i k x 0 (omega arith) ∙ filled.so_far k earlier)
      (get_or-set_same xs i x 0 (omega (arith, filled.long)) ∙ is);
}

-- the vector at a place is as long as the matrix
pub vec_len-row : (rows : List (Vec ℕ Global)) (up : ℕ) (d : Vec ℕ Global) → IsTraffic (map (λ row. row.items) rows) → up < length rows
    → length (get_or rows up d).items ≡ length rows
vec_len-row rows up d is within =
    let long = is.square up [] (rw (length-map rows (λ (row : Vec ℕ Global). row.items)) within) in
    sym (ap length (row_of-map rows up d within)) ∙ (long ∙ length-map rows (λ (row : Vec ℕ Global). row.items))

-- the lists of the vectors, as many as the vectors
pub length-lists : (rows : List (Vec ℕ Global)) → length (map (λ row. row.items) rows) ≡ length rows
length-lists rows = length-map rows (λ (row : Vec ℕ Global). row.items)

-- a column's sum by the vectors
pub column_sum-lists : (rows : List (Vec ℕ Global)) (down : ℕ)
    → column_sum (map (λ row. row.items) rows) down ≡ sum_by (λ row. slice_index row.items down) rows
column_sum-lists rows down = sum_by-map (λ (row : List ℕ). slice_index row down) (λ (row : Vec ℕ Global). row.items) rows

-- a row's sum by the vector at its place
pub row_sum-lists : (rows : List (Vec ℕ Global)) (up : ℕ) (row : Vec ℕ Global) (numbers : List ℕ) → up < length rows
    → row ≡ get_or rows up row → numbers ≡ row.items → row_sum (map (λ row. row.items) rows) up ≡ sum numbers
row_sum-lists rows up row numbers within is slice =
    ap sum (row_of-map rows up row within) ∙ (sym (ap (λ (r : Vec ℕ Global). sum r.items) is) ∙ sym (ap sum slice))

-- a matrix of zeros is one
pub IsTraffic-replicate : (size : ℕ) → 1 ≤ size → size ≤ 32 → IsTraffic (replicate size (replicate size 0))
IsTraffic-replicate size some few =
    let zeros = replicate size 0 in
    let size_is : length (replicate size zeros) ≡ size = length-replicate size zeros in
    record {
      some_beams = omega (arith, size_is);
      few_beams = omega (arith, size_is);
      square = All-replicate (λ (row : List ℕ). length row ≡ length (replicate size zeros)) size zeros (length-replicate {A = ℕ} size 0 ∙ sym size_is);
      row_sums = λ up within.
          let there : up < size = omega (arith, size_is) in
          rw (get_or-replicate size up zeros [] there) (omega (arith, sum_by-replicate (λ (x : ℕ). x) size 0));
      column_sums = λ down within.
          let there : down < size = omega (arith, size_is) in
          let nothing : slice_index zeros down ≡ 0 = get_or-replicate size down 0 0 there in
          rw (sum_by-replicate (λ (row : List ℕ). slice_index row down) size zeros, nothing) (omega arith);
    }

-- an entry is within the sum of its row, and of its column
pub entry-le-row_sum : (rows : List (List ℕ)) (up down : ℕ) → down < length (row_of rows up) → entry rows up down ≤ row_sum rows up
entry-le-row_sum rows up down within = get_or-le-sum_by (λ (x : ℕ). x) (row_of rows up) down 0 within

pub entry-le-column_sum : (rows : List (List ℕ)) (up down : ℕ) → up < length rows → entry rows up down ≤ column_sum rows down
entry-le-column_sum rows up down within = get_or-le-sum_by (λ (row : List ℕ). slice_index row down) rows up [] within
