-- Reading modes one after the other, as a loop does, up to the end.
use Rattle.std.proofs.Common.{◌≡◌, ℕ, suc, ◌+◌, Bool, true, false, cond, eqb, List, [], ◌∷◌, ◌++◌, length, Ok, Err, refl, sym, ap, ◌∙◌, arith, inl, inr}
use Rattle.std.specs.Prelude.{codes}
use Rattle.std.proofs.lemmas.Bool.{eqb-true}
use Rattle.std.proofs.lemmas.List.{append-nil}
use Rattle.bt_text.specs.Text.{words, lines, is_word}
use Rattle.bt_frame.specs.declared.mode.Mode.{Mode}
use Rattle.bt_plan.specs.declared.text_fault.TextCode.TheVariants.{M1}
use Rattle.bt_text.specs.Reading.{◌>>=◌, or_fault}
use Rattle.bt_plan.specs.Reading.{Fault, Reading}
use Rattle.bt_plan.specs.ScheduleText.{mode_in, end_in, modes_in, critical_in, critical_and_modes, length_in, schedule_in, schedule_of}
use Rattle.bt_text.proofs.Front.{with_front, regroup}
use Rattle.bt_text.proofs.FirstLine.{lines-HasFirst, lines_after_end}

-- the first line of the modes, and those that follow it
modes_in-line : (size at : ℕ) (line after : List ℕ) → modes_in size at (line ∷ lines after) ≡ cond (is_word (codes "end") line) (end_in (at + 1) (lines after)) (or_fault {Fault = Fault} (M1, at) (mode_in size (words line)) >>= λ mode. modes_in size (at + 1) (lines after) >>= λ modes. Ok (mode ∷ modes))
modes_in-line size at line after =
    let next = lines-HasFirst after in
    rw next.2 refl

-- one mode further
pub goes_on : (size at : ℕ) (front : List Mode) (ls : List (List ℕ)) (line after : List ℕ) (mode : Mode) (total : Reading (List Mode))
    → ls ≡ line ∷ lines after → is_word (codes "end") line ≡ false → or_fault {Fault = Fault} (M1, at) (mode_in size (words line)) ≡ Ok mode
    → with_front front (modes_in size at ls) ≡ total → with_front (front ++ mode ∷ []) (modes_in size (at + 1) (lines after)) ≡ total
goes_on size at front ls line after mode total cut no_end read so_far =
    let one : modes_in size at ls ≡ (modes_in size (at + 1) (lines after) >>= λ modes. Ok (mode ∷ modes)) = ap (modes_in size at) cut ∙ modes_in-line size at line after ∙ rw (no_end, read) refl in
    sym (regroup front mode (modes_in size (at + 1) (lines after))) ∙ sym (ap (with_front front) one) ∙ so_far

-- behind the end
end_in-is : (at : ℕ) (text : List ℕ) (empty : Bool) → eqb (length text) 0 ≡ empty → end_in at (lines text) ≡ cond empty (Ok []) (Err (M1, at))
end_in-is at [] true e = refl
end_in-is at [] false e = absurd cc
end_in-is at (b ∷ rest) true e = let none : suc (length rest) ≡ 0 = eqb-true (suc (length rest)) 0 e in absurd (omega arith)
end_in-is at (b ∷ rest) false e =
    elim (lines_after_end b rest) [
      | inl gap ↦ rw gap.2 refl
      | inr more ↦ rw more.2 refl
    ]

with_front-end : (front : List Mode) (empty : Bool) (at : ℕ) → with_front {Fault = Fault} front (cond empty (Ok []) (Err (M1, at))) ≡ cond empty (Ok front) (Err (M1, at))
with_front-end front true at = ap (λ (all : List Mode). Ok all) (append-nil front)
with_front-end front false at = refl

-- the end, and what stands behind it
pub ends_there : (size at : ℕ) (front : List Mode) (ls : List (List ℕ)) (line after : List ℕ) (total : Reading (List Mode))
    → ls ≡ line ∷ lines after → is_word (codes "end") line ≡ true
    → with_front front (modes_in size at ls) ≡ total → total ≡ cond (eqb (length after) 0) (Ok front) (Err (M1, at + 1))
ends_there size at front ls line after total cut is_end so_far =
    let one : modes_in size at ls ≡ end_in (at + 1) (lines after) = ap (modes_in size at) cut ∙ modes_in-line size at line after ∙ rw is_end refl in
    sym so_far ∙ ap (with_front front) (one ∙ end_in-is (at + 1) after (eqb (length after) 0) refl) ∙ with_front-end front (eqb (length after) 0) (at + 1)

-- the length, and what follows it
pub schedule_from_line : (size : ℕ) (text line rest : List ℕ) → lines text ≡ line ∷ lines rest → schedule_of size text ≡ (or_fault (M1, 1) (length_in (words line)) >>= λ slots. critical_and_modes size slots (lines rest))
schedule_from_line size text line rest cut =
    let next = lines-HasFirst rest in
    ap (schedule_in size) cut ∙ rw next.2 refl

-- the critical line, and what follows it
pub critical_from_line : (size slots : ℕ) (ls : List (List ℕ)) (line rest : List ℕ) → ls ≡ line ∷ lines rest → critical_and_modes size slots ls ≡ (or_fault (M1, 2) (critical_in size (words line)) >>= λ critical. modes_in size 3 (lines rest) >>= λ modes. Ok (record { length = slots; critical = critical; modes = modes }))
critical_from_line size slots ls line rest cut =
    let next = lines-HasFirst rest in
    ap (critical_and_modes size slots) cut ∙ rw next.2 refl
