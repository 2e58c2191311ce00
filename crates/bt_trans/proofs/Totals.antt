-- All entries of a matrix together, by rows.
use Rattle.std.proofs.Common.{◌≡◌, ℕ, zero, suc, ◌+◌, ◌*◌, ◌<◌, ◌≤◌, List, [], length, sum, inl, inr, arith}
use Rattle.std.proofs.lemmas.List.Sums.{count_by-le-length}
use Rattle.std.proofs.lemmas.Bool.{cases_lt}
use Rattle.std.specs.List.{count_by}
use Rattle.bt_frame.proofs.Totals.{total, total-le, sum_by-total}
use Rattle.bt_matrix.specs.Traffic.{row_of, row_sum, IsTraffic}
use Rattle.bt_matrix.specs.Walk.{is_positive, positive_entries, row_entries}
use Rattle.bt_trans.specs.Part.{total_slots}

-- equal parts
pub total-equal : (n a : ℕ) → total n (λ _. a) ≡ a * n
total-equal zero a = omega arith
total-equal (suc n) a = let rest = total-equal n a in grind (arith, rest)

-- the sum of a row, under a name that no variable hides
abbrev row_total_of : List ℕ → ℕ
row_total_of row = sum row

-- the sum of all row sums
pub total_slots-total : (rows : List (List ℕ)) → total_slots rows ≡ total (length rows) (row_sum rows)
total_slots-total rows = sum_by-total row_total_of rows []

-- so no more than so many times what a row has at most
pub total_slots-le : (rows : List (List ℕ)) (most : ℕ) → ((up : ℕ) → up < length rows → row_sum rows up ≤ most) → total_slots rows ≤ most * length rows
total_slots-le rows most each =
    omega (arith, total_slots-total rows, total-le (length rows) (row_sum rows) (λ _. most) each, total-equal (length rows) most)

-- no more entries are positive than there are
pub positive_entries-le : (rows : List (List ℕ)) → IsTraffic rows → positive_entries rows ≤ length rows * length rows
positive_entries-le rows traffic =
    let n = length rows in
    let each : (up : ℕ) → up < n → row_entries rows up ≤ n = λ up inside. omega (arith, count_by-le-length is_positive (row_of rows up), traffic.square up [] inside) in
    omega (arith, sum_by-total (λ (row : List ℕ). count_by is_positive row) rows [], total-le n (row_entries rows) (λ _. n) each, total-equal n n)

-- so there are no more modes than positive entries, whether slots are asked for or not
pub count-le : (slots modes lines entries : ℕ) → 1 ≤ lines → (0 < slots → modes + lines ≤ entries + 1) → (slots ≡ 0 → modes ≡ 0) → modes ≤ entries
count-le slots modes lines entries some few none =
    elim (cases_lt 0 slots) [
      | inl asked ↦ omega (arith, few asked)
      | inr silent ↦ omega (arith, none (omega arith))
    ]
