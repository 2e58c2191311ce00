-- The bordered matrix, written out.
use Rattle.std.proofs.Common.{◌≡◌, ℕ, ◌+◌, ◌-◌, ◌*◌, ◌<◌, ◌≤◌, false, ltb, List, [], ◌∷◌, ◌++◌, Vec, Global, length, map, slice_index, refl, sym, ap, subst, ◌∙◌, arith}
use Rattle.std.proofs.lemmas.Bool.{lt-ltb, ltb-true, false_from_ne_true}
use Rattle.std.specs.List.{range_with_len}
use Rattle.std.proofs.lemmas.List.{map_push}
use Rattle.std.proofs.lemmas.List.FromFn.{map-range_with_len_more}
use Rattle.bt_frame.proofs.Images.{numbers_below, image_at, length-images}
use Rattle.bt_matrix.specs.Traffic.{entry, IsTraffic}
use Rattle.bt_modes.specs.Padding.{HasLinesWithin}
use Rattle.bt_modes.proofs.Sums.{IsSquare}
use Rattle.bt_trans.specs.Border.{cut, overlap, bordered_cut, row_wants, column_wants, AreCells, bordered_rows, cell_at, cell_of}
use Rattle.bt_trans.specs.Part.{total_slots}
use Rattle.bt_trans.proofs.Borders.{IsBorderedWhole, IsBorderedWhole-cells}

-- no less is not less
not_less : (m n : ℕ) → n ≤ m → ltb m n ≡ false
not_less m n past = false_from_ne_true (ltb m n) (λ yes. let less = ltb-true m n yes in omega arith)

-- an old row, a new row under an old column, and the corner
cell_at-upper : (size inner sum : ℕ) (rows_want columns_want : ℕ → ℕ) (own : ℕ → ℕ → ℕ) (up down : ℕ) → up < size
    → cell_at size inner sum rows_want columns_want own up down ≡ own up down
    + overlap (cut rows_want up) (cut rows_want (up + 1)) (bordered_cut size inner sum columns_want down) (bordered_cut size inner sum columns_want (down + 1))
cell_at-upper size inner sum rows_want columns_want own up down inside = rw (lt-ltb up size inside) refl

cell_at-lower : (size inner sum : ℕ) (rows_want columns_want : ℕ → ℕ) (own : ℕ → ℕ → ℕ) (up down : ℕ) → size ≤ up → down < size
    → cell_at size inner sum rows_want columns_want own up down
    ≡ overlap (cut columns_want down) (cut columns_want (down + 1)) (bordered_cut size inner sum rows_want up) (bordered_cut size inner sum rows_want (up + 1))
cell_at-lower size inner sum rows_want columns_want own up down past inside = rw (not_less up size past, lt-ltb down size inside) refl

cell_at-corner : (size inner sum : ℕ) (rows_want columns_want : ℕ → ℕ) (own : ℕ → ℕ → ℕ) (up down : ℕ) → size ≤ up → size ≤ down
    → cell_at size inner sum rows_want columns_want own up down ≡ 0
cell_at-corner size inner sum rows_want columns_want own up down past behind = rw (not_less up size past, not_less down size behind) refl

-- an entry of what was written
entry-written : (rows : List (List ℕ)) (inner sum lines up down : ℕ) → up < lines → down < lines
    → entry (bordered_rows rows inner sum lines) up down ≡ cell_of rows inner sum up down
entry-written rows inner sum lines up down in_rows in_columns =
    ap (λ (row : List ℕ). slice_index row down) (image_at (λ i. map (cell_of rows inner sum i) (numbers_below lines)) lines up [] in_rows)
    ∙ image_at (cell_of rows inner sum up) lines down 0 in_columns

-- it is square
IsSquare-written : (rows : List (List ℕ)) (inner sum lines : ℕ) → IsSquare (bordered_rows rows inner sum lines) lines
IsSquare-written rows inner sum lines = record {
  count = length-images (λ i. map (cell_of rows inner sum i) (numbers_below lines)) lines;
  long = λ up inside. ap length (image_at (λ i. map (cell_of rows inner sum i) (numbers_below lines)) lines up [] inside) ∙ length-images (cell_of rows inner sum up) lines;
}

-- and has these cells
AreCells-written : (rows : List (List ℕ)) (inner sum border : ℕ)
    → AreCells (length rows) border inner sum (row_wants rows sum) (column_wants rows sum) (entry rows) (entry (bordered_rows rows inner sum (length rows + border)))
AreCells-written rows inner sum border =
    let n = length rows in
    let at = entry-written rows inner sum (n + border) in
    record {
      upper = λ i j inside below. at i j (omega arith) below ∙ cell_at-upper n inner sum (row_wants rows sum) (column_wants rows sum) (entry rows) i j inside;
      lower = λ i j new below inside. at i j below (omega arith) ∙ cell_at-lower n inner sum (row_wants rows sum) (column_wants rows sum) (entry rows) i j new inside;
      corner = λ i j new below behind within. at i j below within ∙ cell_at-corner n inner sum (row_wants rows sum) (column_wants rows sum) (entry rows) i j new behind;
    }

-- so it is bordered
pub IsBorderedWhole-written : (rows : List (List ℕ)) (k lines inner sum : ℕ) → IsTraffic rows → HasLinesWithin rows sum → k ≤ length rows → lines + k ≡ length rows + length rows
    → lines ≤ 32 → sum ≤ 1048576 → inner + total_slots rows ≡ k * sum → IsBorderedWhole rows (bordered_rows rows inner sum lines) k sum
IsBorderedWhole-written rows k lines inner sum is within fits sizes few limit all =
    let border = lines - length rows in
    let whole : length rows + border ≡ lines = omega arith in
    let Cells : ℕ → Type 0 = λ n. AreCells (length rows) border inner sum (row_wants rows sum) (column_wants rows sum) (entry rows) (entry (bordered_rows rows inner sum n)) in
    IsBorderedWhole-cells rows (bordered_rows rows inner sum lines) k lines inner sum is within fits sizes few limit all (IsSquare-written rows inner sum lines)
    (subst Cells whole (AreCells-written rows inner sum border))

-- one entry more of a row, and one row more
pub entries_more : (f : ℕ → ℕ) (so_far new : List ℕ) (n x : ℕ) → new ≡ so_far ++ x ∷ [] → so_far ≡ map f (range_with_len 0 n) → x ≡ f n
    → new ≡ map f (range_with_len 0 (n + 1))
entries_more f so_far new n x is before here =
    is ∙ ap (λ (xs : List ℕ). xs ++ x ∷ []) before ∙ ap (λ (y : ℕ). map f (range_with_len 0 n) ++ y ∷ []) here
    ∙ sym (map-range_with_len_more f 0 n n (omega arith))

pub rows_more : (f : ℕ → List ℕ) (so_far new : List (Vec ℕ Global)) (n : ℕ) (row : Vec ℕ Global) → new ≡ so_far ++ row ∷ []
    → map (λ (r : Vec ℕ Global). r.items) so_far ≡ map f (range_with_len 0 n) → row.items ≡ f n
    → map (λ (r : Vec ℕ Global). r.items) new ≡ map f (range_with_len 0 (n + 1))
rows_more f so_far new n row is before here =
    ap (map (λ (r : Vec ℕ Global). r.items)) is ∙ map_push (λ (r : Vec ℕ Global). r.items) so_far row
    ∙ ap (λ (xs : List (List ℕ)). xs ++ row.items ∷ []) before ∙ ap (λ (y : List ℕ). map f (range_with_len 0 n) ++ y ∷ []) here
    ∙ sym (map-range_with_len_more f 0 n n (omega arith))

-- what was written by such numbers is bordered
pub IsBorderedWhole-made : (rows made : List (List ℕ)) (k lines inner sum in_part in_line : ℕ) → IsTraffic rows → HasLinesWithin rows sum → k ≤ length rows
    → lines + k ≡ length rows + length rows → lines ≤ 32 → sum ≤ 1048576 → inner + total_slots rows ≡ k * sum
    → made ≡ bordered_rows rows in_part in_line lines → in_part ≡ inner → in_line ≡ sum → IsBorderedWhole rows made k sum
IsBorderedWhole-made rows made k lines inner sum in_part in_line is within fits sizes few limit all written part line =
    let same : made ≡ bordered_rows rows inner sum lines = written ∙ ap (λ (i : ℕ). bordered_rows rows i in_line lines) part ∙ ap (λ (s : ℕ). bordered_rows rows inner s lines) line in
    let Whole : List (List ℕ) → Type 0 = λ m. IsBorderedWhole rows m k sum in
    subst Whole (sym same) (IsBorderedWhole-written rows k lines inner sum is within fits sizes few limit all)
