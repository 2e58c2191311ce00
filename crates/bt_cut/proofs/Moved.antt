-- A list in another order still has each element once.
use Rattle.std.proofs.Common.{◌≡◌, ℕ, ◌<◌, List, length, get_or, AllPairs, refl, sym, ◌∙◌, inl, inr, arith}
use Rattle.std.specs.List.{swap}
use Rattle.std.specs.List.Sorted.{IsPermutation}
use Rattle.std.proofs.lemmas.Bool.{cases_eq, cases_lt}
use Rattle.std.proofs.lemmas.List.Edits.{swapped_from_swap}
use Rattle.std.proofs.lemmas.List.Sorted.{IsPermutation-keeps, IsPermutation-swap, length_permutation}

-- where an element stood before two of them changed places
record StoodAt {X : Type 0} (old new : List X) (i j k : ℕ) (d : X) : Type 0 where
  pub place : ℕ
  pub within : place < length old
  pub same : get_or new k d ≡ get_or old place d
  pub first : k ≡ i → place ≡ j
  pub second : k ≡ j → place ≡ i
  pub other : (k ≡ i → ⊥) → (k ≡ j → ⊥) → place ≡ k

stood_at : {X : Type 0} (old : List X) (i j k : ℕ) (d : X) → i < length old → j < length old → k < length old → StoodAt old (swap old i j) i j k d
stood_at old i j k d in_i in_j within =
    let swapped = swapped_from_swap old (swap old i j) i j d in_i in_j refl in
    elim (cases_eq k i) [
      | inl same ↦ record { place = j; within = in_j; same = rw same swapped.0; first = λ _. refl; second = λ equal. omega arith; other = λ apart _. absurd (apart same) }
      | inr beside ↦
          elim (cases_eq k j) [
            | inl same ↦ record { place = i; within = in_i; same = rw same swapped.1; first = λ equal. absurd (beside equal); second = λ _. refl; other = λ _ apart. absurd (apart same) }
            | inr apart ↦ record { place = k; within = within; same = swapped.2 k beside apart; first = λ equal. absurd (beside equal); second = λ equal. absurd (apart equal); other = λ _ _. refl }
          ]
    ]

-- two places that differ hold two elements
abbrev Differ : {X : Type 0} → List X → Type 0
Differ {X} xs = (i j : ℕ) (d : X) → (i ≡ j → ⊥) → i < length xs → j < length xs → get_or xs i d ≡ get_or xs j d → ⊥

differ_from_pairs : {X : Type 0} (xs : List X) → AllPairs (λ a b. (a ≡ b) → ⊥) xs → Differ xs
differ_from_pairs xs pairs i j d other in_i in_j same =
    elim (cases_lt i j) [
      | inl less ↦ pairs i j d less in_j same
      | inr more ↦ let later : j < i = omega arith in pairs j i d later in_i (sym same)
    ]

differ_swap : {X : Type 0} (xs : List X) (i j : ℕ) → i < length xs → j < length xs → Differ xs → Differ (swap xs i j)
differ_swap xs i j in_i in_j differ a b d other in_a in_b same =
    let count : length (swap xs i j) ≡ length xs = length_permutation xs (swap xs i j) (IsPermutation-swap xs (swap xs i j) i j in_i in_j refl) in
    let was_a = stood_at xs i j a d in_i in_j (omega arith) in
    let was_b = stood_at xs i j b d in_i in_j (omega arith) in
    let apart : was_a.place ≡ was_b.place → ⊥ = λ equal. grind (arith, was_a.first, was_a.second, was_a.other, was_b.first, was_b.second, was_b.other, equal, other) in
    differ was_a.place was_b.place d apart was_a.within was_b.within (sym was_a.same ∙ (same ∙ was_b.same))

-- a list without repetitions has none in another order
pub distinct_moved : {X : Type 0} (xs ys : List X) → IsPermutation xs ys → AllPairs (λ a b. (a ≡ b) → ⊥) xs → AllPairs (λ a b. (a ≡ b) → ⊥) ys
distinct_moved xs ys moved pairs =
    let differ = IsPermutation-keeps xs Differ (differ_from_pairs xs pairs) (λ l i j in_i in_j before. differ_swap l i j in_i in_j before) ys moved in
    λ i j d less within same. differ i j d (λ equal. omega arith) (omega arith) within same
