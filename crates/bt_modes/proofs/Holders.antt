-- The rows of the columns, as they are listed.
use Rattle.std.proofs.Common.{◌≡◌, ℕ, ◌+◌, ◌<◌, List, length, Option, Some, None, set, sym, ap, ◌∙◌, inl, inr, arith, get_or-set_same, get_or-set_other}
use Rattle.std.specs.List.{slice_index}
use Rattle.std.proofs.lemmas.Bool.{cases_eq}
use Rattle.bt_modes.specs.Matching.{column_of, HasOwnColumns}

-- the columns of so many rows are listed
abbrev pub AreHoldersTo : ℕ → List (Option ℕ) → List ℕ → Type 0
AreHoldersTo count columns holders = (row down : ℕ) → row < count → column_of columns row ≡ Some down → slice_index holders down ≡ row

-- one row more, which has a column, or has none
pub AreHoldersTo-some : (columns : List (Option ℕ)) (holders : List ℕ) (row down : ℕ) → HasOwnColumns columns → down < length holders
    → column_of columns row ≡ Some down → AreHoldersTo row columns holders → AreHoldersTo (row + 1) columns (set holders down row)
AreHoldersTo-some columns holders row down own inside here so_far = λ other taken low has.
    elim (cases_eq other row) [
      | inl same ↦
          let again : column_of columns row ≡ Some taken = sym (ap (column_of columns) same) ∙ has in
          let one : taken ≡ down = cc in
          rw (one, same) (get_or-set_same holders down row 0 inside)
      | inr apart ↦
          get_or-set_other holders down taken row 0 (λ one. apart (own other row down (has ∙ ap (λ d. Some d) one) here)) ∙ so_far other taken (omega (arith, apart)) has
    ]

pub AreHoldersTo-none : (columns : List (Option ℕ)) (holders : List ℕ) (row : ℕ) → column_of columns row ≡ None → AreHoldersTo row columns holders
    → AreHoldersTo (row + 1) columns holders
AreHoldersTo-none columns holders row none so_far = λ other taken low has.
    elim (cases_eq other row) [
      | inl same ↦ absurd (let again : column_of columns row ≡ Some taken = sym (ap (column_of columns) same) ∙ has in cc)
      | inr apart ↦ so_far other taken (omega (arith, apart)) has
    ]
