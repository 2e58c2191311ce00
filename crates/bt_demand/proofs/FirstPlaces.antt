-- There is one first place of a list that breaks a rule, and none where all items keep it.
use Rattle.std.proofs.Common.{◌≡◌, ℕ, ◌<◌, List, [], ◌∷◌, length, take, All, arith, inl, inr}
use Rattle.std.proofs.lemmas.Bool.{cases_order}
use Rattle.std.proofs.lemmas.List.{get_or-take, length-take}
use Rattle.bt_demand.specs.Verdict.{IsFirstWithout}

-- a list that has a place has an item
pub some_item : {X : Type 0} (xs : List X) (place : ℕ) → place < length xs → X
some_item [] place within = absurd (omega arith)
some_item (x ∷ xs) place within = x

-- not all items keep the rule where one breaks it
pub not_all : {X : Type 0} (Rule : X → Type 0) (xs : List X) (place : ℕ) → IsFirstWithout Rule xs place → All Rule xs → ⊥
not_all Rule xs place first all = let d = some_item xs place first.within in first.broken d (all place d first.within)

-- none of those before the first breaks it
not_before : {X : Type 0} (Rule : X → Type 0) (xs : List X) (i j : ℕ) → i < j → IsFirstWithout Rule xs i → IsFirstWithout Rule xs j → ⊥
not_before Rule xs i j before first second =
    let d = some_item xs i first.within in
    let inside : i < length (take j xs) = omega (arith, length-take j xs, second.within) in
    first.broken d (rw (← get_or-take j xs i d before) (second.earlier i d inside))

-- there is one first place
pub one_first : {X : Type 0} (Rule : X → Type 0) (xs : List X) (i j : ℕ) → IsFirstWithout Rule xs i → IsFirstWithout Rule xs j → i ≡ j
one_first Rule xs i j a b = elim (cases_order i j) [
  | inl same ↦ same
  | inr order ↦ elim order [
    | inl before ↦ absurd (not_before Rule xs i j before a b)
    | inr after ↦ absurd (not_before Rule xs j i after b a)
  ]
]
