-- Copies of a matrix.
use Rattle.std.proofs.Common.{◌≡◌, ◌≢◌, ℕ, ◌+◌, ◌<◌, ◌≤◌, ◌⊎◌, inl, inr, List, [], length, get_or, set, slice_index, sym, ap, ◌∙◌, refl, arith, subst, ⊎_elim, length-set, get_or-set_same, get_or-set_other}
use Rattle.std.proofs.lemmas.Bool.{cases_eq, cases_lt, cases_order}
use Rattle.std.proofs.lemmas.List.{ext_get_or}
use Rattle.bt_frame.proofs.Totals.{total, total-le, sum_by-total}
use Rattle.bt_frame.specs.declared.limits.TheConstants.{MOST_SUM}
use Rattle.bt_matrix.specs.Traffic.{row_of, entry, row_sum, column_sum, with_entry, IsTraffic}
use Rattle.bt_matrix.proofs.Lines.{row_sum-with_entry_same, column_sum-with_entry_same}
use Rattle.bt_matrix.proofs.Writes.{entry-with_entry_same, length-row}
use Rattle.bt_matrix.specs.Copy.{IsCopied}

-- another entry than the one that was written
entry-other : (rows : List (List ℕ)) (up down n u d : ℕ) → up < length rows → (u ≡ up → d ≡ down → ⊥) → entry (with_entry rows up down n) u d ≡ entry rows u d
entry-other rows up down n u d within other = ⊎_elim
    (λ (here : u ≡ up).
    let row = get_or-set_same rows up (set (row_of rows up) down n) [] within in
    let kept = get_or-set_other (row_of rows up) down d n 0 (other here) in
    subst (λ (v : ℕ). entry (with_entry rows up down n) v d ≡ entry rows v d) (sym here) (ap (λ (r : List ℕ). get_or r d 0) row ∙ kept))
    (λ (else : u ≡ up → ⊥). ap (λ (r : List ℕ). get_or r d 0) (get_or-set_other rows up u (set (row_of rows up) down n) [] else))
    (cases_eq u up)

-- no entry of the copy is greater
copied-le : (rows copy : List (List ℕ)) (up down u d : ℕ) → IsCopied rows copy up down → entry copy u d ≤ entry rows u d
copied-le rows copy up down u d is = ⊎_elim
    (λ (same : u ≡ up). ⊎_elim
    (λ (before : d < down). omega (arith, is.done u d (inr (same, before))))
    (λ (behind : down ≤ d). omega (arith, is.rest u d (inr (same, behind))))
    (cases_lt d down))
    (λ (other : (u < up) ⊎ (up < u)). ⊎_elim
    (λ (before : u < up). omega (arith, is.done u d (inl before)))
    (λ (behind : up < u). omega (arith, is.rest u d (inl behind)))
    other)
    (cases_order u up)

less : (d n : ℕ) → d < n + 1 → d ≢ n → d < n
less d n below other = ⊎_elim (λ (same : d ≡ n). absurd (other same)) (λ (not : d ≡ n → ⊥). omega arith) (cases_eq d n)

more : (d n : ℕ) → n + 1 ≤ d → d ≢ n
more d n above same = omega arith

weaker : (d n : ℕ) → n + 1 ≤ d → n ≤ d
weaker d n above = omega arith

-- the next entry was copied
pub IsCopied-with_entry : (rows copy : List (List ℕ)) (up down : ℕ) → IsTraffic copy → up < length rows → down < length rows → IsCopied rows copy up down
    → IsCopied rows (with_entry copy up down (entry rows up down)) up (down + 1)
IsCopied-with_entry rows copy up down traffic in_rows in_columns is =
    let up_in : up < length copy = omega (arith, is.size) in
    let long = length-row copy up traffic up_in in
    let here = entry-with_entry_same copy up down (entry rows up down) up_in (omega (arith, long, is.size)) in
    record {
      size = length-set copy up (set (row_of copy up) down (entry rows up down)) ∙ is.size;
      done = λ u d before. ⊎_elim
          (λ (earlier : u < up). entry-other copy up down (entry rows up down) u d up_in (λ same _. omega arith) ∙ is.done u d (inl earlier))
          (λ (at : (u ≡ up) × (d < down + 1)). ⊎_elim
          (λ (same : d ≡ down). rw at.0 (rw same here))
          (λ (other : d ≡ down → ⊥). entry-other copy up down (entry rows up down) u d up_in (λ _ same. other same)
          ∙ is.done u d (inr (at.0, less d down at.1 other)))
          (cases_eq d down))
          before;
      rest = λ u d behind. ⊎_elim
          (λ (later : up < u). entry-other copy up down (entry rows up down) u d up_in (λ same _. omega arith) ∙ is.rest u d (inl later))
          (λ (at : (u ≡ up) × (down + 1 ≤ d)). entry-other copy up down (entry rows up down) u d up_in (λ _ same. more d down at.1 same)
          ∙ is.rest u d (inr (at.0, weaker d down at.1)))
          behind;
    }

-- room in the row and in the column for the next entry
pub fits : (rows copy : List (List ℕ)) (up down : ℕ) → IsTraffic rows → IsTraffic copy → up < length rows → down < length rows → IsCopied rows copy up down
    → (row_sum copy up + entry rows up down ≤ MOST_SUM) × (column_sum copy down + entry rows up down ≤ MOST_SUM)
fits rows copy up down traffic copied in_rows in_columns is =
    let n = entry rows up down in
    let copy' = with_entry copy up down n in
    let next = IsCopied-with_entry rows copy up down copied in_rows in_columns is in
    let up_in : up < length copy = omega (arith, is.size) in
    let long = length-row copy up copied up_in in
    let in_row : down < length (row_of copy up) = omega (arith, long, is.size) in
    let nothing = is.rest up down (inr (refl, omega arith)) in
    let row = row_sum-with_entry_same copy up down n up_in in_row in
    let column = column_sum-with_entry_same copy up down n up_in in_row in
    let row_long : length (row_of copy' up) ≡ length (row_of rows up) =
    ap (λ (r : List ℕ). length r) (get_or-set_same copy up (set (row_of copy up) down n) [] up_in)
    ∙ (length-set (row_of copy up) down n ∙ (long ∙ (is.size ∙ sym (length-row rows up traffic in_rows)))) in
    let row_less = total-le (length (row_of rows up)) (λ k. entry copy' up k) (λ k. entry rows up k) (λ k below. copied-le rows copy' up (down + 1) up k next) in
    let column_less = total-le (length rows) (λ k. entry copy' k down) (λ k. entry rows k down) (λ k below. copied-le rows copy' up (down + 1) k down next) in
    let row_places = sum_by-total (λ (x : ℕ). x) (row_of copy' up) 0 in
    let rows_places = sum_by-total (λ (x : ℕ). x) (row_of rows up) 0 in
    let column_places = sum_by-total (λ (r : List ℕ). slice_index r down) copy' [] in
    let columns_places = sum_by-total (λ (r : List ℕ). slice_index r down) rows [] in (
      omega (arith, row, nothing, rw row_long at row_places, rows_places, row_less, traffic.row_sums up in_rows),
      omega (arith, column, nothing, rw next.size at column_places, columns_places, column_less, traffic.column_sums down in_columns),
    )

-- all was copied
pub copied_all : (rows copy : List (List ℕ)) → IsTraffic rows → IsTraffic copy → IsCopied rows copy (length rows) 0 → copy ≡ rows
copied_all rows copy traffic copied is = ext_get_or [] copy rows is.size
    (λ u below.
    let in_rows : u < length rows = omega (arith, is.size) in
    let long = length-row copy u copied below in
    let long_rows = length-row rows u traffic in_rows in
    ext_get_or 0 (row_of copy u) (row_of rows u) (long ∙ (is.size ∙ sym long_rows)) (λ d _. is.done u d (inl in_rows)))
