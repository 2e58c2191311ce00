-- A text spells only traffic matrices.
use Rattle.std.proofs.Common.{◌≡◌, ℕ, zero, suc, ◌+◌, ◌*◌, ◌<◌, ◌≤◌, Bool, true, false, cond, leb, eqb, ◌&&◌, List, [], ◌∷◌, length, get_or, sum, All, Option, Some, None, Ok, Err, refl, sym, ap, subst, ◌∙◌, arith}
use Rattle.std.specs.List.{list_all, AllByRecursion}
use Rattle.std.proofs.lemmas.Bool.{and_parts, leb-true, eqb-true}
use Rattle.std.proofs.lemmas.List.Elements.{All-from_recursion}
use Rattle.std.proofs.lemmas.List.Sums.{sum_by-cons}
use Rattle.bt_text.specs.Text.{words, lines, numbers_of}
use Rattle.bt_frame.specs.declared.schedule.Critical.{Critical}
use Rattle.bt_frame.specs.declared.schedule.Critical.TheVariants.{Row, Column}
use Rattle.bt_matrix.specs.Traffic.{IsTraffic, IsLine, row_of, row_sum, column_sum, line_sum}
use Rattle.bt_plan.specs.declared.text_fault.TextCode.{TextCode}
use Rattle.bt_plan.specs.declared.text_fault.TextCode.TheVariants.{X1, X2}
use Rattle.bt_text.specs.Reading.{◌>>=◌}
use Rattle.bt_text.proofs.Steps.{bind_ok, passed}
use Rattle.bt_plan.specs.Reading.{Reading}
use Rattle.bt_plan.specs.MatrixText.{size_in, row_in, rows_in, matrix_in, matrix_reading}

-- a test that did not fail
pub guard_ok : {A : Type 0} (b : Bool) (fault : TextCode × ℕ) (x y : A) → cond b (Ok x) (Err fault) ≡ Ok y → (b ≡ true) × (x ≡ y)
guard_ok true fault x y e = (refl, cc)
guard_ok false fault x y e = absurd cc

abbrev pub read : {A : Type 0} → A → Reading A
read x = Ok x

pub ok_is : {A : Type 0} (x y : A) → read x ≡ read y → x ≡ y
ok_is x y e = cc

size_in-ok : (o : Option (List ℕ)) (size : ℕ) → size_in o ≡ Ok size → (1 ≤ size) × (size ≤ 32)
size_in-ok None size e = absurd cc
size_in-ok (Some []) size e = absurd cc
size_in-ok (Some (n ∷ [])) size e =
    let tested = guard_ok (leb 1 n && leb n 32) (X2, 1) n size e in
    let parts = and_parts (leb 1 n) (leb n 32) tested.0 in
    (rw (← tested.1) (leb-true 1 n parts.0), rw (← tested.1) (leb-true n 32 parts.1))
size_in-ok (Some (n ∷ m ∷ ns)) size e = absurd cc

-- as many entries as the size, each of at most 4096 slots
record IsRow (size : ℕ) (row : List ℕ) : Type 0 where
  len : length row ≡ size
  small : list_all (λ units. leb units 4096) row ≡ true

row_in-ok : (size at : ℕ) (o : Option (List ℕ)) (row : List ℕ) → row_in size at o ≡ Ok row → IsRow size row
row_in-ok size at None row e = absurd cc
row_in-ok size at (Some units) row e =
    let long = passed (eqb (length units) size) (X1, at) (cond (list_all (λ u. leb u 4096) units) (Ok units) (Err (X2, at))) row e in
    let small = guard_ok (list_all (λ u. leb u 4096) units) (X2, at) units row long.1 in
    subst (IsRow size) small.1 (record { len = eqb-true (length units) size long.0; small = small.0 })

record AreRows (size count : ℕ) (rows : List (List ℕ)) : Type 0 where
  count_is : length rows ≡ count
  each : AllByRecursion (IsRow size) rows

rows_in-ok : (size count at : ℕ) (ls : List (List ℕ)) (rows : List (List ℕ)) → rows_in size count at ls ≡ Ok rows → AreRows size count rows
rows_in-ok size zero at [] rows e = absurd cc
rows_in-ok size zero at ([] ∷ []) rows e = subst (AreRows size 0) (ok_is [] rows e) (record { count_is = refl; each = tt })
rows_in-ok size zero at ([] ∷ next ∷ rest) rows e = absurd cc
rows_in-ok size zero at ((b ∷ line) ∷ rest) rows e = absurd cc
rows_in-ok size (suc more) at [] rows e = absurd cc
rows_in-ok size (suc more) at (line ∷ []) rows e = absurd cc
rows_in-ok size (suc more) at (line ∷ next ∷ rest) rows e =
    let first = bind_ok (row_in size at (numbers_of (words line))) (λ row. rows_in size more (at + 1) (next ∷ rest) >>= λ others. Ok (row ∷ others)) rows e in
    let others = bind_ok (rows_in size more (at + 1) (next ∷ rest)) (λ others. Ok (first.0 ∷ others)) rows first.2 in
    let front = row_in-ok size at (numbers_of (words line)) first.0 first.1 in
    let behind = rows_in-ok size more (at + 1) (next ∷ rest) others.0 others.1 in
    subst (AreRows size (suc more)) (ok_is (first.0 ∷ others.0) rows others.2) (record { count_is = ap suc behind.count_is; each = (front, behind.each) })

-- an entry, and 0 outside the row
entry_small : (row : List ℕ) → list_all (λ units. leb units 4096) row ≡ true → (k : ℕ) → get_or row k 0 ≤ 4096
entry_small [] small k = omega arith
entry_small (units ∷ row) small zero = leb-true units 4096 (and_parts (leb units 4096) (list_all (λ u. leb u 4096) row) small).0
entry_small (units ∷ row) small (suc k) = entry_small row (and_parts (leb units 4096) (list_all (λ u. leb u 4096) row) small).1 k

sum-small : (row : List ℕ) → list_all (λ units. leb units 4096) row ≡ true → sum row ≤ length row * 4096
sum-small [] small = omega arith
sum-small (units ∷ row) small =
    let parts = and_parts (leb units 4096) (list_all (λ u. leb u 4096) row) small in
    omega (arith, sum_by-cons (λ u. u) units row, leb-true units 4096 parts.0, sum-small row parts.1)

column-small : (size : ℕ) (rows : List (List ℕ)) (down : ℕ) → AllByRecursion (IsRow size) rows → column_sum rows down ≤ length rows * 4096
column-small size [] down each = omega arith
column-small size (row ∷ rows) down each = omega (arith, sum_by-cons (λ (r : List ℕ). get_or r down 0) row rows, entry_small row each.0.small down, column-small size rows down each.1)

rows-IsTraffic : (size : ℕ) (rows : List (List ℕ)) → 1 ≤ size → size ≤ 32 → AreRows size size rows → IsTraffic rows
rows-IsTraffic size rows some few are =
    let each : All (IsRow size) rows = All-from_recursion (IsRow size) rows are.each in
    record {
      some_beams = omega (arith, are.count_is);
      few_beams = omega (arith, are.count_is);
      square = λ up d lt. (each up d lt).len ∙ sym are.count_is;
      row_sums = λ up lt. omega (arith, sum-small (get_or rows up []) (each up [] lt).small, (each up [] lt).len);
      column_sums = λ down lt. omega (arith, column-small size rows down are.each, are.count_is);
    }

-- rows of a size from 1 to 32, as many as entries in each
record IsSized (rows : List (List ℕ)) : Type 0 where
  size : ℕ
  some : 1 ≤ size
  few : size ≤ 32
  are : AreRows size size rows

matrix_in-sized : (ls rows : List (List ℕ)) → matrix_in ls ≡ Ok rows → IsSized rows
matrix_in-sized [] rows e = absurd cc
matrix_in-sized (first ∷ []) rows e = absurd cc
matrix_in-sized (first ∷ next ∷ rest) rows e =
    let size = bind_ok (size_in (numbers_of (words first))) (λ size. rows_in size size 2 (next ∷ rest)) rows e in
    let range = size_in-ok (numbers_of (words first)) size.0 size.1 in
    record { size = size.0; some = range.0; few = range.1; are = rows_in-ok size.0 size.0 2 (next ∷ rest) rows size.2 }

-- no row that a text spells asks for more than so many entries may
pub row_sum-small : (text : List ℕ) (rows : List (List ℕ)) → matrix_reading text ≡ Ok rows → (up : ℕ) → up < length rows → row_sum rows up ≤ length rows * 4096
row_sum-small text rows e up within =
    let sized = matrix_in-sized (lines text) rows e in
    let row = All-from_recursion (IsRow sized.size) rows sized.are.each up [] within in
    omega (arith, sum-small (row_of rows up) row.small, row.len, sized.are.count_is)

-- the rows that a text spells are a traffic matrix
pub matrix_reading-IsTraffic : (text : List ℕ) (rows : List (List ℕ)) → matrix_reading text ≡ Ok rows → IsTraffic rows
matrix_reading-IsTraffic text rows e = let sized = matrix_in-sized (lines text) rows e in rows-IsTraffic sized.size rows sized.some sized.few sized.are

line-small : (rows : List (List ℕ)) (line : Critical) → IsSized rows → IsLine rows line → line_sum rows line ≤ 131072
line-small rows (Row up) sized within =
    let row = All-from_recursion (IsRow sized.size) rows sized.are.each up.0 [] within in
    omega (arith, sum-small (row_of rows up.0) row.small, row.len, sized.few)
line-small rows (Column down) sized within =
    omega (arith, column-small sized.size rows down.0 sized.are.each, sized.are.count_is, sized.few)

-- and each line of them has at most sixteen times the greatest entry
pub matrix_reading-line_small : (text : List ℕ) (rows : List (List ℕ)) (line : Critical) → matrix_reading text ≡ Ok rows → IsLine rows line → line_sum rows line ≤ 131072
matrix_reading-line_small text rows line e within = line-small rows line (matrix_in-sized (lines text) rows e) within
