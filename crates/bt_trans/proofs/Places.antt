-- How many places of a permutation lie in the old part, where none lies in the corner.
use Rattle.std.proofs.Common.{◌≡◌, ◌==◌, ℕ, ◌+◌, ◌<◌, ◌≤◌, if◌then◌else◌, Bool, List, [], ◌∷◌, slice_index, All, ap, refl, arith, eq-eqb}
use Rattle.std.proofs.lemmas.List.Elements.{All-head, All-tail, All-cons}
use Rattle.std.proofs.lemmas.List.Sums.{sum_by-cons}
use Rattle.bt_frame.specs.declared.mode.Mode.{Mode}
use Rattle.bt_matrix.specs.Good.{IsPermutation, slots_in, slots_of}
use Rattle.bt_matrix.proofs.Shortest.{mode_in_column}
use Rattle.bt_frame.proofs.Totals.{total, total-le, total-swap, part-le-total}
use Rattle.bt_trans.proofs.Totals.{total-equal}
use Rattle.bt_trans.proofs.Cells.{total-split}

-- one where the uplink has that downlink
abbrev pub has : List ℕ → ℕ → ℕ → ℕ
has perm up down = if slice_index perm up == down then 1 else 0

-- one where the uplink has one of the first downlinks
abbrev pub in_first : List ℕ → ℕ → ℕ → ℕ
in_first perm size up = total size (λ down. has perm up down)

-- no downlink is had twice
column_once : (all down : ℕ) (perm : List ℕ) → IsPermutation all perm → total all (λ up. has perm up down) ≤ 1
column_once all down perm permutes = mode_in_column all down (record { duration = 1; perm = perm }) permutes

-- an uplink that has one of the first
pub in_first-one : (size up : ℕ) (perm : List ℕ) → slice_index perm up < size → 1 ≤ in_first perm size up
in_first-one size up perm below =
    let down = slice_index perm up in
    let here : has perm up down ≡ 1 = ap (λ (b : Bool). let one : ℕ = if b then 1 else 0 in one) (eq-eqb down down refl) in
    omega (arith, here, part-le-total size (λ down. has perm up down) down below)

-- So many places lie in the old part at most: the new rows take the others of its columns.
pub places-le : (size border : ℕ) (perm : List ℕ) → IsPermutation (size + border) perm
    → ((up : ℕ) → size ≤ up → up < size + border → slice_index perm up < size)
    → total size (in_first perm size) + border ≤ size
places-le size border perm permutes outside =
    let all = size + border in
    let swapped = total-swap all size (λ up down. has perm up down) in
    let columns = total-le size (λ down. total all (λ up. has perm up down)) (λ _. 1) (λ down below. column_once all down perm permutes) in
    let split = total-split size border (in_first perm size) in
    let new = total-le border (λ _. 1) (λ t. in_first perm size (size + t)) (λ t below. in_first-one size (size + t) perm (outside (size + t) (omega arith) (omega arith))) in
    omega (arith, swapped, columns, split, new, total-equal size 1, total-equal border 1)

-- A connection without slots is made by no mode.
pub not_made : (modes : List Mode) (up down : ℕ) → All (λ mode. 0 < mode.duration) modes → slots_of modes up down ≡ 0
    → All (λ mode. slice_index mode.perm up ≡ down → ⊥) modes
not_made [] up down lasting none = λ k d within same. absurd (omega arith)
not_made (mode ∷ modes) up down lasting none =
    let HasSlots = λ (m : Mode). 0 < m.duration in
    let first : 0 < mode.duration = All-head HasSlots mode modes lasting in
    let sums = sum_by-cons (slots_in up down) mode modes in
    let rest = not_made modes up down (All-tail HasSlots mode modes lasting) (omega (arith, none, sums)) in
    let here = λ (same : slice_index mode.perm up ≡ down).
    let made : slots_in up down mode ≡ mode.duration = ap (λ (b : Bool). let one : ℕ = if b then mode.duration else 0 in one) (eq-eqb (slice_index mode.perm up) down same) in
    let bad : ⊥ = omega (arith, made, first, none, sums) in bad in
    All-cons (λ (m : Mode). slice_index m.perm up ≡ down → ⊥) mode modes here rest
