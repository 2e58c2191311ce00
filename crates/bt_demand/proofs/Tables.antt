-- Tables of what a function of two beams gives, and what one more link between two terminals adds to them.
use Rattle.std.proofs.Common.{◌≡◌, ◌≢◌, ℕ, ◌+◌, ◌<◌, ◌≤◌, ◌==◌, ◌&&◌, if◌then◌else◌, Bool, true, false, List, [], Option, Some, None, length, map, slice_index, slice_set, slice_get, sum, unwrap_or, option_map, refl, sym, ap, ◌∙◌, arith, get_or-set_same}
use Rattle.std.proofs.lemmas.Bool.Decides.{nat_tests}
use Rattle.std.proofs.lemmas.List.Sums.{sum-map, sum_by-set, sum_by-le-sum_by}
use Rattle.bt_frame.proofs.Counts.{sum_by-map}
use Rattle.bt_frame.proofs.Images.{numbers_below, length-images, image_at, same_images, images-set}
use Rattle.bt_frame.specs.declared.numbers.BeamNo.{BeamNo}
use Rattle.bt_frame.specs.declared.numbers.TermNo.{TermNo}
use Rattle.bt_net.specs.Network.{Net}
use Rattle.bt_net.specs.Terminals.{is_in_beam, IsInBeam}
use Rattle.bt_matrix.specs.Traffic.{row_of, entry, row_sum, column_sum, with_entry}
use Rattle.bt_matrix.proofs.Lines.{row_sum-with_entry_other, column_sum-with_entry_other}
use Rattle.bt_demand.specs.Traffic.{table_of}

-- the row of a table, and its entry
pub row_of-table : (n : ℕ) (f : ℕ → ℕ → ℕ) (up : ℕ) → up < n → row_of (table_of n f) up ≡ map (f up) (numbers_below n)
row_of-table n f up below = image_at (λ (i : ℕ). map (f i) (numbers_below n)) n up [] below

pub entry-table : (n : ℕ) (f : ℕ → ℕ → ℕ) (up down : ℕ) → up < n → down < n → entry (table_of n f) up down ≡ f up down
entry-table n f up down in_rows in_columns =
    ap (λ (row : List ℕ). slice_index row down) (row_of-table n f up in_rows) ∙ image_at (f up) n down 0 in_columns

-- functions that agree but at one pair of beams give tables that differ in one entry
pub table-with_entry : (n : ℕ) (f g : ℕ → ℕ → ℕ) (up down units : ℕ) → up < n → down < n → g up down ≡ f up down + units
    → ((i j : ℕ) → i ≢ up → g i j ≡ f i j) → ((j : ℕ) → j ≢ down → g up j ≡ f up j)
    → table_of n g ≡ with_entry (table_of n f) up down (entry (table_of n f) up down + units)
table-with_entry n f g up down units in_rows in_columns here rows columns =
    let number = entry (table_of n f) up down + units in
    let is : g up down ≡ number = here ∙ ap (λ (x : ℕ). x + units) (sym (entry-table n f up down in_rows in_columns)) in
    let row = images-set (f up) (g up) n down number in_columns is columns in
    images-set (λ (i : ℕ). map (f i) (numbers_below n)) (λ (i : ℕ). map (g i) (numbers_below n)) n up (slice_set (row_of (table_of n f) up) down number) in_rows
    (row ∙ ap (λ (xs : List ℕ). slice_set xs down number) (sym (row_of-table n f up in_rows)))
    (λ i other. same_images (f i) (g i) n (λ j below. rows i j other))

-- what a link between these beams adds to an entry
pub share-here : (b c : Bool) (x y units : ℕ) → b ≡ (x == x) → c ≡ (y == y) → (if b && c then units else 0) ≡ units
share-here b c x y units in_up in_down = grind (arith, nat_tests, in_up, in_down)

pub share-other_row : (b c : Bool) (x i units : ℕ) → b ≡ (x == i) → i ≢ x → (if b && c then units else 0) ≡ 0
share-other_row b c x i units in_up other = grind (arith, nat_tests, in_up)

pub share-other_column : (b c : Bool) (y j units : ℕ) → c ≡ (y == j) → j ≢ y → (if b && c then units else 0) ≡ 0
share-other_column true c y j units in_down other = grind (arith, nat_tests, in_down)
share-other_column false c y j units in_down other = refl

-- a terminal is in its beam alone
pub in_its_beam : (found : Option (List ℕ × BeamNo)) (beam : BeamNo) (i : ℕ) → option_map (λ t. t.1) found ≡ Some beam
    → unwrap_or (option_map (λ t. t.1.0 == i) found) false ≡ (beam.0 == i)
in_its_beam None beam i is = cc
in_its_beam (Some t) beam i is = let same : t.1 ≡ beam = cc in ap (λ (b : BeamNo). b.0 == i) same

-- functions that agree give the same table
pub same_tables : (n : ℕ) (f g : ℕ → ℕ → ℕ) → ((i j : ℕ) → g i j ≡ f i j) → table_of n g ≡ table_of n f
same_tables n f g agree =
    same_images (λ (i : ℕ). map (f i) (numbers_below n)) (λ (i : ℕ). map (g i) (numbers_below n)) n (λ i _. same_images (f i) (g i) n (λ j _. agree i j))

-- a row for each beam, and in it an entry for each
pub length-table : (n : ℕ) (f : ℕ → ℕ → ℕ) → length (table_of n f) ≡ n
length-table n f = length-images (λ (i : ℕ). map (f i) (numbers_below n)) n

pub length-row-table : (n : ℕ) (f : ℕ → ℕ → ℕ) (up : ℕ) → up < n → length (row_of (table_of n f) up) ≡ n
length-row-table n f up below = ap length (row_of-table n f up below) ∙ length-images (f up) n

-- one function gives more than the other at the beams of two terminals, and as much elsewhere
abbrev pub Exceeds : Net → (ℕ → ℕ → ℕ) → (ℕ → ℕ → ℕ) → TermNo → TermNo → ℕ → Type 0
Exceeds net g f from to units = (i j : ℕ) → g i j ≡ f i j + (if is_in_beam net i from && is_in_beam net j to then units else 0)

-- then their tables differ in one entry
pub table-Exceeds : (net : Net) (n : ℕ) (f g : ℕ → ℕ → ℕ) (from to : TermNo) (units : ℕ) (up down : BeamNo) → Exceeds net g f from to units
    → IsInBeam net from up → IsInBeam net to down → up.0 < n → down.0 < n
    → table_of n g ≡ with_entry (table_of n f) up.0 down.0 (entry (table_of n f) up.0 down.0 + units)
table-Exceeds net n f g from to units up down added up_is down_is in_rows in_columns =
    let in_up = λ (i : ℕ). in_its_beam (slice_get net.terminals from.0) up i up_is in
    let in_down = λ (j : ℕ). in_its_beam (slice_get net.terminals to.0) down j down_is in
    table-with_entry n f g up.0 down.0 units in_rows in_columns
    (added up.0 down.0 ∙ ap (λ (x : ℕ). f up.0 down.0 + x) (share-here _ _ up.0 down.0 units (in_up up.0) (in_down down.0)))
    (λ i j other. omega (arith, added i j, share-other_row (is_in_beam net i from) (is_in_beam net j to) up.0 i units (in_up i) other))
    (λ j other. omega (arith, added up.0 j, share-other_column (is_in_beam net up.0 from) (is_in_beam net j to) down.0 j units (in_down j) other))

pub row_sum-gained : (rows : List (List ℕ)) (up down units : ℕ) → up < length rows → down < length (row_of rows up)
    → row_sum (with_entry rows up down (entry rows up down + units)) up ≡ row_sum rows up + units
row_sum-gained rows up down units in_rows in_row =
    let number = entry rows up down + units in
    let changed = sum_by-set (λ (x : ℕ). x) (row_of rows up) down number 0 in_row in
    ap sum (get_or-set_same rows up (slice_set (row_of rows up) down number) [] in_rows) ∙ omega (arith, changed)

pub column_sum-gained : (rows : List (List ℕ)) (up down units : ℕ) → up < length rows → down < length (row_of rows up)
    → column_sum (with_entry rows up down (entry rows up down + units)) down ≡ column_sum rows down + units
column_sum-gained rows up down units in_rows in_row =
    let number = entry rows up down + units in
    let row = slice_set (row_of rows up) down number in
    let changed = sum_by-set (λ (r : List ℕ). slice_index r down) rows up row [] in_rows in
    omega (arith, changed, get_or-set_same (row_of rows up) down number 0 in_row)

-- What the lines of the two tables have.
pub record LinesExceed (new old : List (List ℕ)) (up down units : ℕ) : Type 0 where
  pub row : row_sum new up ≡ row_sum old up + units
  pub column : column_sum new down ≡ column_sum old down + units
  pub other_rows : (k : ℕ) → k ≢ up → row_sum new k ≡ row_sum old k
  pub other_columns : (k : ℕ) → k ≢ down → column_sum new k ≡ column_sum old k

pub with_entry-LinesExceed : (rows new : List (List ℕ)) (up down units : ℕ) → up < length rows → down < length (row_of rows up)
    → new ≡ with_entry rows up down (entry rows up down + units) → LinesExceed new rows up down units
with_entry-LinesExceed rows new up down units in_rows in_row is = rw is (record {
  row = row_sum-gained rows up down units in_rows in_row;
  column = column_sum-gained rows up down units in_rows in_row;
  other_rows = λ k other. row_sum-with_entry_other rows up down (entry rows up down + units) k other;
  other_columns = λ k other. column_sum-with_entry_other rows up down (entry rows up down + units) k in_rows other;
})

pub table-LinesExceed : (net : Net) (n : ℕ) (f g : ℕ → ℕ → ℕ) (from to : TermNo) (units : ℕ) (up down : BeamNo) → Exceeds net g f from to units
    → IsInBeam net from up → IsInBeam net to down → up.0 < n → down.0 < n → LinesExceed (table_of n g) (table_of n f) up.0 down.0 units
table-LinesExceed net n f g from to units up down added up_is down_is in_rows in_columns =
    with_entry-LinesExceed (table_of n f) (table_of n g) up.0 down.0 units (omega (arith, length-table n f, in_rows)) (omega (arith, length-row-table n f up.0 in_rows, in_columns))
    (table-Exceeds net n f g from to units up down added up_is down_is in_rows in_columns)

-- greater entries have greater sums
pub row_sum-le : (n : ℕ) (f g : ℕ → ℕ → ℕ) (up : ℕ) → up < n → ((i j : ℕ) → f i j ≤ g i j) → row_sum (table_of n f) up ≤ row_sum (table_of n g) up
row_sum-le n f g up below le =
    let first = ap sum (row_of-table n f up below) ∙ sum-map (f up) (numbers_below n) in
    let second = ap sum (row_of-table n g up below) ∙ sum-map (g up) (numbers_below n) in
    omega (arith, first, second, sum_by-le-sum_by (f up) (g up) (numbers_below n) (le up))

pub column_sum-le : (n : ℕ) (f g : ℕ → ℕ → ℕ) (down : ℕ) → down < n → ((i j : ℕ) → f i j ≤ g i j) → column_sum (table_of n f) down ≤ column_sum (table_of n g) down
column_sum-le n f g down below le =
    let at = λ (row : List ℕ). slice_index row down in
    let first = sum_by-map at (λ (i : ℕ). map (f i) (numbers_below n)) (numbers_below n) in
    let second = sum_by-map at (λ (i : ℕ). map (g i) (numbers_below n)) (numbers_below n) in
    let each = λ (i : ℕ). let old = image_at (f i) n down 0 below in let new = image_at (g i) n down 0 below in
    let is : at (map (f i) (numbers_below n)) ≤ at (map (g i) (numbers_below n)) = omega (arith, old, new, le i down) in is in
    omega (arith, first, second, sum_by-le-sum_by (λ (i : ℕ). at (map (f i) (numbers_below n))) (λ (i : ℕ). at (map (g i) (numbers_below n))) (numbers_below n) each)
