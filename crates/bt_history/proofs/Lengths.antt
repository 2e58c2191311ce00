-- The greatest line sum of a matrix: the first line that has it, and what is left of it where an entry gains or loses.
use Rattle.std.proofs.Common.{◌≡◌, ◌≢◌, ◌⊎◌, ℕ, zero, suc, ◌+◌, ◌-◌, ◌<◌, ◌≤◌, List, length, slice_set, sym, ◌∙◌, subst, arith, inl, inr, ⊎_elim, length-set}
use Rattle.std.proofs.lemmas.Bool.{cases_eq}
use Rattle.bt_frame.specs.declared.schedule.Critical.{Critical}
use Rattle.bt_frame.specs.declared.schedule.Critical.TheVariants.{Row, Column}
use Rattle.bt_frame.specs.Critical.{IsOfBeams}
use Rattle.bt_matrix.specs.Traffic.{row_of, entry, row_sum, column_sum, line_sum, with_entry, IsLine, IsBefore, IsHeaviest}
use Rattle.bt_matrix.proofs.Lines.{row_sum-with_entry_same, row_sum-with_entry_other, column_sum-with_entry_same, column_sum-with_entry_other}

-- the first of so many numbers that is the greatest
record IsFirst (f : ℕ → ℕ) (most count : ℕ) : Type 0 where
  place : ℕ
  within : place < count
  reached : f place ≡ most
  before : (k : ℕ) → k < place → f k < most

first_or_none : (f : ℕ → ℕ) (most count : ℕ) → ((k : ℕ) → k < count → f k ≤ most) → IsFirst f most count ⊎ ((k : ℕ) → k < count → f k < most)
first_or_none f most zero greatest = inr (λ k below. absurd (omega arith))
first_or_none f most (suc m) greatest = ⊎_elim
    (λ (found : IsFirst f most m). inl (record { place = found.place; within = omega (arith, found.within); reached = found.reached; before = found.before }))
    (λ (none : (k : ℕ) → k < m → f k < most). ⊎_elim
    (λ (here : f m ≡ most). inl (record { place = m; within = omega arith; reached = here; before = none }))
    (λ (other : f m ≡ most → ⊥).
    let last : f m < most = omega (arith, other, greatest m (omega arith)) in
    inr (λ k below. ⊎_elim (λ (e : k ≡ m). subst (λ (j : ℕ). f j < most) (sym e) last) (λ (earlier : k ≡ m → ⊥). none k (omega arith)) (cases_eq k m)))
    (cases_eq (f m) most))
    (first_or_none f most m (λ k below. greatest k (omega arith)))

before_row : (rows : List (List ℕ)) (place most : ℕ) (other : Critical) → ((k : ℕ) → k < place → row_sum rows k < most)
    → IsBefore other (Row (record { 0 = place })) → line_sum rows other < most
before_row rows place most (Row i) less before = less i.0 before
before_row rows place most (Column i) less before = absurd before

before_column : (rows : List (List ℕ)) (place most : ℕ) (other : Critical) → ((k : ℕ) → k < length rows → row_sum rows k < most)
    → ((k : ℕ) → k < place → column_sum rows k < most) → IsLine rows other → IsBefore other (Column (record { 0 = place })) → line_sum rows other < most
before_column rows place most (Row i) no_row less on before = no_row i.0 on
before_column rows place most (Column i) no_row less on before = less i.0 before

less_everywhere : (rows : List (List ℕ)) (most : ℕ) (line : Critical) → ((k : ℕ) → k < length rows → row_sum rows k < most)
    → ((k : ℕ) → k < length rows → column_sum rows k < most) → IsLine rows line → line_sum rows line < most
less_everywhere rows most (Row i) no_row no_column on = no_row i.0 on
less_everywhere rows most (Column i) no_row no_column on = no_column i.0 on

-- where a line has the greatest sum, there is a first one that has it
first_heaviest : (rows : List (List ℕ)) (line : Critical) (most : ℕ) → IsLine rows line → line_sum rows line ≡ most
    → ((other : Critical) → IsLine rows other → line_sum rows other ≤ most) → (x : Critical) × IsHeaviest rows x most
first_heaviest rows line most on reached greatest = ⊎_elim
    (λ (row : IsFirst (row_sum rows) most (length rows)).
    (Row (record { 0 = row.place }), record { on_matrix = row.within; reached = row.reached; greatest = greatest; first = λ other is before. before_row rows row.place most other row.before before }))
    (λ (no_row : (k : ℕ) → k < length rows → row_sum rows k < most). ⊎_elim
    (λ (column : IsFirst (column_sum rows) most (length rows)).
    (Column (record { 0 = column.place }), record { on_matrix = column.within; reached = column.reached; greatest = greatest; first = λ other is before. before_column rows column.place most other no_row column.before is before }))
    (λ (no_column : (k : ℕ) → k < length rows → column_sum rows k < most). absurd (omega (arith, reached, less_everywhere rows most line no_row no_column on)))
    (first_or_none (column_sum rows) most (length rows) (λ k below. greatest (Column (record { 0 = k })) below)))
    (first_or_none (row_sum rows) most (length rows) (λ k below. greatest (Row (record { 0 = k })) below))

-- numbers of which one changed: what bounds them, and where none became less
bound_kept : (old new : ℕ → ℕ) (at k most : ℕ) → ((k : ℕ) → k ≢ at → new k ≡ old k) → new at ≤ most → old k ≤ most → new k ≤ most
bound_kept old new at k most others here before = ⊎_elim
    (λ (e : k ≡ at). subst (λ (j : ℕ). new j ≤ most) (sym e) here)
    (λ (other : k ≡ at → ⊥). omega (arith, others k other, before))
    (cases_eq k at)

none_less : (old new : ℕ → ℕ) (at k : ℕ) → ((k : ℕ) → k ≢ at → new k ≡ old k) → old at ≤ new at → old k ≤ new k
none_less old new at k others here = ⊎_elim
    (λ (e : k ≡ at). subst (λ (j : ℕ). old j ≤ new j) (sym e) here)
    (λ (other : k ≡ at → ⊥). omega (arith, others k other))
    (cases_eq k at)

-- a number is the greater one of the sums of a row and of a column
pub record IsGreater (rows : List (List ℕ)) (up down sum : ℕ) : Type 0 where
  pub row : row_sum rows up ≤ sum
  pub column : column_sum rows down ≤ sum
  pub one : (sum ≡ row_sum rows up) ⊎ (sum ≡ column_sum rows down)

-- no line of a matrix of which one entry was written has more than the lines had and the entry's own have
bound_written : (rows : List (List ℕ)) (up down n most : ℕ) (line : Critical) → up < length rows → row_sum (with_entry rows up down n) up ≤ most
    → column_sum (with_entry rows up down n) down ≤ most → line_sum rows line ≤ most → line_sum (with_entry rows up down n) line ≤ most
bound_written rows up down n most (Row i) in_rows row column before =
    bound_kept (row_sum rows) (row_sum (with_entry rows up down n)) up i.0 most (row_sum-with_entry_other rows up down n) row before
bound_written rows up down n most (Column i) in_rows row column before =
    bound_kept (column_sum rows) (column_sum (with_entry rows up down n)) down i.0 most (λ k other. column_sum-with_entry_other rows up down n k in_rows other) column before

-- no line has less where the entry gained
none_lost : (rows : List (List ℕ)) (up down n : ℕ) (line : Critical) → up < length rows → row_sum rows up ≤ row_sum (with_entry rows up down n) up
    → column_sum rows down ≤ column_sum (with_entry rows up down n) down → line_sum rows line ≤ line_sum (with_entry rows up down n) line
none_lost rows up down n (Row i) in_rows row column =
    none_less (row_sum rows) (row_sum (with_entry rows up down n)) up i.0 (row_sum-with_entry_other rows up down n) row
none_lost rows up down n (Column i) in_rows row column =
    none_less (column_sum rows) (column_sum (with_entry rows up down n)) down i.0 (λ k other. column_sum-with_entry_other rows up down n k in_rows other) column

-- the matrix is as large as before
same_size : (rows : List (List ℕ)) (up down n : ℕ) → length (with_entry rows up down n) ≡ length rows
same_size rows up down n = length-set rows up (slice_set (row_of rows up) down n)

-- where an entry gains, the greatest sum stays or becomes the greater one of its two lines
pub gained-heaviest : (rows next : List (List ℕ)) (up down units most sum new : ℕ) (line : Critical) → up < length rows → down < length rows → down < length (row_of rows up)
    → next ≡ with_entry rows up down (entry rows up down + units) → IsHeaviest rows line most → IsGreater next up down sum
    → most ≤ new → sum ≤ new → (new ≢ most → new ≡ sum) → (x : Critical) × IsHeaviest next x new
gained-heaviest rows next up down units most sum new line in_rows in_columns in_row is heaviest greater above_most above_sum raised =
    let n = entry rows up down + units in
    let written = with_entry rows up down n in
    let size : length next ≡ length rows = subst (λ (m : List (List ℕ)). length m ≡ length rows) (sym is) (same_size rows up down n) in
    let row = row_sum-with_entry_same rows up down n in_rows in_row in
    let column = column_sum-with_entry_same rows up down n in_rows in_row in
    let sums = subst (λ (m : List (List ℕ)). IsGreater m up down sum) is greater in
    let greatest : (other : Critical) → IsLine next other → line_sum next other ≤ new = λ other on.
    subst (λ (m : List (List ℕ)). line_sum m other ≤ new) (sym is)
    (bound_written rows up down n new other in_rows (omega (arith, sums.row, above_sum)) (omega (arith, sums.column, above_sum))
    (omega (arith, above_most, heaviest.greatest other (subst (λ (k : ℕ). IsOfBeams k other) size on)))) in
    let there : IsLine next line = subst (λ (k : ℕ). IsOfBeams k line) (sym size) heaviest.on_matrix in
    let kept : line_sum rows line ≤ line_sum next line = subst (λ (m : List (List ℕ)). line_sum rows line ≤ line_sum m line) (sym is)
    (none_lost rows up down n line in_rows (omega (arith, row)) (omega (arith, column))) in
    ⊎_elim
    (λ (same : new ≡ most). first_heaviest next line new there (omega (arith, kept, heaviest.reached, greatest line there)) greatest)
    (λ (other : new ≡ most → ⊥). ⊎_elim
    (λ (of_row : sum ≡ row_sum next up). first_heaviest next (Row (record { 0 = up })) new (omega (arith, size)) (sym (raised other ∙ of_row)) greatest)
    (λ (of_column : sum ≡ column_sum next down). first_heaviest next (Column (record { 0 = down })) new (omega (arith, size)) (sym (raised other ∙ of_column)) greatest)
    greater.one)
    (cases_eq new most)

-- a line that has more than the entry's own lines stays as it was
line_kept : (rows : List (List ℕ)) (up down n most : ℕ) (line : Critical) → up < length rows → row_sum rows up < most → column_sum rows down < most
    → line_sum rows line ≡ most → line_sum (with_entry rows up down n) line ≡ most
line_kept rows up down n most (Row i) in_rows row column reached = ⊎_elim
    (λ (e : i.0 ≡ up). absurd (omega (arith, row, subst (λ (j : ℕ). row_sum rows j ≡ most) e reached)))
    (λ (other : i.0 ≡ up → ⊥). row_sum-with_entry_other rows up down n i.0 other ∙ reached)
    (cases_eq i.0 up)
line_kept rows up down n most (Column i) in_rows row column reached = ⊎_elim
    (λ (e : i.0 ≡ down). absurd (omega (arith, column, subst (λ (j : ℕ). column_sum rows j ≡ most) e reached)))
    (λ (other : i.0 ≡ down → ⊥). column_sum-with_entry_other rows up down n i.0 in_rows other ∙ reached)
    (cases_eq i.0 down)

-- where an entry loses and neither of its lines has the greatest sum, this stays
pub lost-heaviest : (rows next : List (List ℕ)) (up down units most sum : ℕ) (line : Critical) → up < length rows → down < length rows → down < length (row_of rows up)
    → next ≡ with_entry rows up down (entry rows up down - units) → IsHeaviest rows line most → IsGreater rows up down sum → sum ≢ most
    → (x : Critical) × IsHeaviest next x most
lost-heaviest rows next up down units most sum line in_rows in_columns in_row is heaviest greater other =
    let n = entry rows up down - units in
    let row = row_sum-with_entry_same rows up down n in_rows in_row in
    let column = column_sum-with_entry_same rows up down n in_rows in_row in
    let size : length next ≡ length rows = subst (λ (m : List (List ℕ)). length m ≡ length rows) (sym is) (same_size rows up down n) in
    let row_most : row_sum rows up ≤ most = heaviest.greatest (Row (record { 0 = up })) in_rows in
    let column_most : column_sum rows down ≤ most = heaviest.greatest (Column (record { 0 = down })) in_columns in
    let less : sum < most = ⊎_elim
    (λ (of_row : sum ≡ row_sum rows up). let below : sum < most = omega (arith, of_row, row_most, other) in below)
    (λ (of_column : sum ≡ column_sum rows down). let below : sum < most = omega (arith, of_column, column_most, other) in below)
    greater.one in
    let greatest : (other : Critical) → IsLine next other → line_sum next other ≤ most = λ x on.
    subst (λ (m : List (List ℕ)). line_sum m x ≤ most) (sym is)
    (bound_written rows up down n most x in_rows (omega (arith, row, row_most)) (omega (arith, column, column_most))
    (heaviest.greatest x (subst (λ (k : ℕ). IsOfBeams k x) size on))) in
    first_heaviest next line most (subst (λ (k : ℕ). IsOfBeams k line) (sym size) heaviest.on_matrix)
    (subst (λ (m : List (List ℕ)). line_sum m line ≡ most) (sym is)
    (line_kept rows up down n most line in_rows (omega (arith, greater.row, less)) (omega (arith, greater.column, less)) heaviest.reached))
    greatest
