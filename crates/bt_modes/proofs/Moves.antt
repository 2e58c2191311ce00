-- A row that left its column for one that had not been visited.
use Rattle.std.proofs.Common.{◌≡◌, ℕ, ◌<◌, true, false, Bool, List, length, Option, Some, set, sym, ◌∙◌, ap, inl, inr, arith, get_or-set_same, get_or-set_other}
use Rattle.std.proofs.lemmas.Bool.{false≢true, cases_eq, cases_lt}
use Rattle.std.proofs.lemmas.List.{get_or_past}
use Rattle.bt_modes.specs.Matching.{column_of, HasOwnColumns}
use Rattle.bt_modes.specs.Search.{is_visited, HasUnvisited, MovesToUnvisited, IsFreeColumn}

-- what had not been visited after a column was had not been visited before it
pub is_visited-set : (visited : List Bool) (taken down : ℕ) → is_visited (set visited taken true) down ≡ false → is_visited visited down ≡ false
is_visited-set visited taken down unseen =
    elim (cases_eq down taken) [
      | inl same ↦ elim (cases_lt taken (length visited)) [
        | inl inside ↦ absurd (false≢true (sym unseen ∙ ap (is_visited (set visited taken true)) same ∙ get_or-set_same visited taken true false inside))
        | inr past ↦ get_or_past visited down false (omega arith)
      ]
      | inr apart ↦ sym (get_or-set_other visited taken down true false apart) ∙ unseen
    ]

-- a row that moved to a column not visited after one was moved to one not visited before it
pub MovesToUnvisited-set :
    (visited : List Bool) (taken : ℕ) (columns after : List (Option ℕ))
    → MovesToUnvisited (set visited taken true) columns after
    → MovesToUnvisited visited columns after
MovesToUnvisited-set visited taken columns after moves row down has =
    elim (moves row down has) [
      | inl held ↦ inl held
      | inr unseen ↦ inr (is_visited-set visited taken down unseen)
    ]

-- no row has the column that the row left
pub IsFreeColumn-left :
    (columns after : List (Option ℕ)) (visited : List Bool) (row taken : ℕ)
    → taken < length visited
    → HasOwnColumns columns → column_of columns row ≡ Some taken
    → HasUnvisited (set visited taken true) after row
    → MovesToUnvisited (set visited taken true) columns after
    → IsFreeColumn after taken
IsFreeColumn-left columns after visited row taken inside own had left moves other has =
    let seen : is_visited (set visited taken true) taken ≡ true = get_or-set_same visited taken true false inside in
    elim (moves other taken has) [
      | inl held ↦
          let (down, now, unseen) = left in
          let same : other ≡ row = own other row taken held had in
          let again : column_of after other ≡ Some down = ap (column_of after) same ∙ now in
          let here : down ≡ taken = cc in
          false≢true (sym unseen ∙ ap (is_visited (set visited taken true)) here ∙ seen)
      | inr unseen ↦ false≢true (sym unseen ∙ seen)
    ]
