-- Reading rows one after the other, as a loop does.
use Rattle.std.proofs.Common.{◌≡◌, ℕ, zero, suc, ◌+◌, ◌-◌, ◌<◌, false, eqb, List, [], ◌∷◌, ◌++◌, length, Ok, Err, refl, sym, ap, ◌∙◌, arith, inl, inr}
use Rattle.bt_text.specs.Text.{words, lines, numbers_of}
use Rattle.bt_plan.specs.declared.text_fault.TextCode.TheVariants.{X1}
use Rattle.bt_plan.specs.declared.text_fault.TextCode.{TextCode}
use Rattle.bt_text.specs.declared.fault.LineFault.{LineFault}
use Rattle.bt_text.specs.declared.fault.LineFault.TheVariants.{At, OutOfMemory}
use Rattle.bt_text.specs.Reading.{◌>>=◌, IsFaultOf}
use Rattle.bt_plan.specs.Reading.{Reading}
use Rattle.bt_plan.specs.MatrixText.{size_in, row_in, rows_in, matrix_in, matrix_reading}
use Rattle.bt_text.proofs.Front.{with_front, regroup}
use Rattle.bt_text.proofs.FirstLine.{lines-HasFirst, lines_after_end}

-- the size, and the rows that follow it
pub matrix_from_line : (text line rest : List ℕ) → lines text ≡ line ∷ lines rest → matrix_reading text ≡ (size_in (numbers_of (words line)) >>= λ size. rows_in size size 2 (lines rest))
matrix_from_line text line rest cut =
    let next = lines-HasFirst rest in
    ap matrix_in cut ∙ rw next.2 refl

-- the first of the rows, and those that follow it
rows_in-line : (size more at : ℕ) (line text : List ℕ) → rows_in size (suc more) at (line ∷ lines text) ≡ (row_in size at (numbers_of (words line)) >>= λ row. rows_in size more (at + 1) (lines text) >>= λ rows. Ok (row ∷ rows))
rows_in-line size more at line text =
    let next = lines-HasFirst text in
    rw next.2 refl

-- the rows left in the text that begins with line `at`, when line 2 has the first
abbrev pub left : ℕ → ℕ → List (List ℕ) → Reading (List (List ℕ))
left size at ls = rows_in size (size + 2 - at) at ls

left-line : (size at : ℕ) (line after : List ℕ) → at < size + 2 → left size at (line ∷ lines after) ≡ (row_in size at (numbers_of (words line)) >>= λ row. left size (at + 1) (lines after) >>= λ rows. Ok (row ∷ rows))
left-line size at line after lt =
    let k : size + 2 - at ≡ suc (size + 2 - (at + 1)) = omega arith in
    rw k (rows_in-line size (size + 2 - (at + 1)) at line after)

-- the invariant's equation, one line further
pub goes_on : (size at : ℕ) (front : List (List ℕ)) (ls : List (List ℕ)) (line after row : List ℕ) (total : Reading (List (List ℕ))) → at < size + 2
    → ls ≡ line ∷ lines after → row_in size at (numbers_of (words line)) ≡ Ok row
    → with_front front (left size at ls) ≡ total → with_front (front ++ row ∷ []) (left size (at + 1) (lines after)) ≡ total
goes_on size at front ls line after row total lt cut read so_far =
    let one : left size at ls ≡ (left size (at + 1) (lines after) >>= λ rows. Ok (row ∷ rows)) = ap (left size at) cut ∙ left-line size at line after lt ∙ rw read refl in
    sym (regroup front row (left size (at + 1) (lines after))) ∙ sym (ap (with_front front) one) ∙ so_far

-- a line that is no row is the text's fault
pub ends : (e : LineFault TextCode) (size at : ℕ) (front : List (List ℕ)) (ls : List (List ℕ)) (line after : List ℕ) (total : Reading (List (List ℕ))) → at < size + 2
    → ls ≡ line ∷ lines after → IsFaultOf (row_in size at (numbers_of (words line))) e
    → with_front front (left size at ls) ≡ total → IsFaultOf total e
ends OutOfMemory size at front ls line after total lt cut read so_far = tt
ends (At code line') size at front ls line after total lt cut read so_far =
    let one : left size at ls ≡ Err (code, line') = ap (left size at) cut ∙ left-line size at line after lt ∙ rw read refl in
    sym so_far ∙ ap (with_front front) one

-- behind the last row
rows_in-more : (size at : ℕ) (text : List ℕ) → eqb (length text) 0 ≡ false → rows_in size zero at (lines text) ≡ Err (X1, at)
rows_in-more size at [] some = absurd cc
rows_in-more size at (b ∷ rest) some =
    elim (lines_after_end b rest) [
      | inl gap ↦ rw gap.2 refl
      | inr more ↦ rw more.2 refl
    ]

-- a line too many
pub ends_late : (size at : ℕ) (front : List (List ℕ)) (text : List ℕ) (total : Reading (List (List ℕ))) → at ≡ size + 2
    → eqb (length text) 0 ≡ false
    → with_front front (left size at (lines text)) ≡ total → total ≡ Err (X1, size + 2)
ends_late size at front text total is some so_far =
    let k : size + 2 - at ≡ 0 = omega arith in
    let one : left size at (lines text) ≡ Err (X1, at) = rw k (rows_in-more size at text some) in
    sym so_far ∙ ap (with_front front) one ∙ ap (λ (line : ℕ). Err (X1, line)) is
